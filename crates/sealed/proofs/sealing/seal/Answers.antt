use Rattle.std.proofs.Common.{length, take, ap, ◌∙◌, arith}
use Rattle.std.proofs.lemmas.List.{length-take, take_all}
use Rattle.reader.specs.Drafts.{tests_of, codes_of}
use Rattle.sealed.specs.Plans.{sealable}
use Rattle.sealed.proofs.Drafted.{sealed_of}
use Rattle.sealed.proofs.sealing.seal.Goals as goal

pub returns-clause-tests : goal.returns-clause-tests
returns-clause-tests g c =
    let d = c.args.draft in
    ap g.A.FromTests.own c.of-2.ensures.alphabet ∙ c.of.ensures ∙ ap (take 63) c.tests.ensures.all ∙ take_all 63 (tests_of d) (omega (arith, ap length c.tests.ensures.all, c.tests.ensures.few))

pub returns-clause-pattern : goal.returns-clause-pattern
returns-clause-pattern g c =
    let d = c.args.draft in
    sealed_of (codes_of d) _ (omega (arith, length-take d.used d.codes, d.counts.1)) (c.of-2.ensures.codes ∙ ap sealable c.codes.ensures)
