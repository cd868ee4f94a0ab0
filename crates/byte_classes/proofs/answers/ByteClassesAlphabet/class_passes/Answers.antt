use Rattle.std.proofs.Common.{ap, ◌∙◌, inr, arith}
use Rattle.sets.specs.Positions.{holds}
use Rattle.byte_classes.specs.Classes.{byte_accepts}
use Rattle.byte_classes.specs.Own.{byte_tests}
use Rattle.byte_classes.specs.Bytewise.{bytes_untested}
use Rattle.alphabet.proofs.Passing.{asked_by, held}
use Rattle.byte_classes.proofs.answers.ByteClassesAlphabet.class_passes.Goals as goal

pub returns : goal.returns
returns c =
    let a = c.args.self.now in
    let ts = byte_tests a in
    asked_by (holds c.passing.result) _ _ c.args.test c.has.ensures (omega arith) ∙ ap (λ f. f c.args.test) c.passing.ensures
    ∙ held (byte_accepts ts c.args.class) 63 c.args.test (omega arith) (λ j l. bytes_untested ts c.args.class j (inr (omega (arith, a.few))))
