use Rattle.std.proofs.Common.{◌≡◌, ◌<◌, length, get_or, sym, refl, ap, ◌∙◌, arith}
use Rattle.std.proofs.lemmas.Fn.{says_at}
use Rattle.sets.specs.Positions.{holds}
use Rattle.alphabet.proofs.Passing.{gather_none, gather_yes, gather_no, gather_all}
use Rattle.alphabet.proofs.kept.passed.Goals as goal
use Rattle.alphabet.proofs.kept.passed.Goals.{then-passes, else-passes}

pub loop-i-init : goal.loop-i-init
loop-i-init g c = λ test _. c.empty-passed.ensures ∙ gather_none test c.args.tests.now.items

pub loop-i-preserved : goal.loop-i-preserved
loop-i-preserved g c =
    λ test answers.
    let ts = c.args.tests.now.items in
    let i = c.loop-i.i in
    let x = c.test-item.result in
    let same : c.deref-test-items.result.now ≡ ts = c.deref-test-items.ensures.0 in
    let here : i < length ts = omega (arith, ap length same) in
    let says : c.passes.result ≡ test (get_or ts i x) = answers _ _ (says_at g.F.Fn c.passes.ensures refl) ∙ ap test (c.test-item.is ∙ ap (λ us. get_or us i x) same) in
    elim c.if-passes.branch [
      | then-passes w ↦
          ap holds w.passed-is
          ∙ gather_yes test ts i x _ _ here (omega (arith, ap length same)) (sym says ∙ w.if-passes.true) (c.loop-i.invariant test answers) w.with-passed.ensures
      | else-passes w ↦ ap holds w.passed-is ∙ gather_no test ts i x _ here (sym says ∙ w.if-passes.false) (c.loop-i.invariant test answers)
    ]

pub returns : goal.returns
returns g c =
    λ test answers.
    let same : c.deref-test-items.result.now ≡ c.args.tests.now.items = c.deref-test-items.ensures.0 in
    c.loop-i.invariant test answers ∙ gather_all test c.args.tests.now.items c.loop-i.i (omega (arith, ap length same)) (omega arith)
