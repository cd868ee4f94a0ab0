use Rattle.std.proofs.Common.{◌≡◌, min, length, take, ap, ◌∙◌, arith}
use Rattle.std.proofs.lemmas.List.{take_min, length-take}
use Rattle.alphabet.proofs.kept.kept_tests.Goals as goal

pub returns : goal.returns
returns g c =
    let ts = c.args.tests.now in
    let e : c.loop-test.test-index ≡ min 63 (length ts) = omega (arith, length-take c.min.result ts) in
    c.loop-test.invariant.1 ∙ ap (λ n. take n ts) e ∙ take_min 63 ts
