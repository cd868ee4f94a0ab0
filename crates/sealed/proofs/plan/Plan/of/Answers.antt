use Rattle.std.proofs.Common.{◌≡◌, take, ◌∙◌, arith}
use Rattle.std.proofs.lemmas.List.{take_all}
use Rattle.sealed.proofs.Drafted.{few_kept, kept_whole}
use Rattle.sealed.proofs.plan.Plan.of.Goals as goal

pub invariant_of-result : goal.invariant_of-result
invariant_of-result c =
    let cs = c.args.codes.now in
    let e : take c.keep-used.result c.keep-used.new.own ≡ cs = c.keep-used.ensures.same ∙ take_all 1023 cs (omega arith) in
    record { few = few_kept cs _ e (omega (arith, c.atoms.ensures)); right = rw e c.of.ensures }

pub returns : goal.returns
returns c =
    let cs = c.args.codes.now in
    kept_whole cs _ (c.keep-used.ensures.same ∙ take_all 1023 cs (omega arith)) (omega arith) (omega (arith, c.atoms.ensures))
