use Rattle.std.proofs.Common.{ap, ◌∙◌, inr, arith}
use Rattle.event_classes.specs.Cuts.{event_accepts}
use Rattle.event_classes.specs.Own.{event_tests}
use Rattle.event_classes.specs.Eventwise.{events_untested}
use Rattle.alphabet.proofs.Passing.{held}
use Rattle.event_classes.proofs.answers.EventCutsAlphabet.class_passes.Goals as goal

pub returns : goal.returns
returns c =
    let a = c.args.self.now in
    let ts = event_tests a in
    c.has.ensures ∙ ap (λ f. f c.args.test) c.passing.ensures
    ∙ held (event_accepts ts c.args.class) 63 c.args.test (omega arith) (λ j l. events_untested ts c.args.class j (inr (omega (arith, a.few))))
