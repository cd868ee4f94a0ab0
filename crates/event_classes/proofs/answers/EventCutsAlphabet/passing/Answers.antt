use Rattle.std.proofs.Common.{get_or, ap, ◌∙◌, arith}
use Rattle.sets.specs.Positions.{holds}
use Rattle.alphabet.specs.Sets.{blank}
use Rattle.alphabet.proofs.Sets.{at_class, at_place}
use Rattle.event_classes.proofs.answers.EventCutsAlphabet.passing.Goals as goal

pub returns : goal.returns
returns c =
    let a = c.args.self.now in
    at_place c.deref.result.now _ c.args.class _ c.set_at.ensures (omega arith) ∙ ap (λ sets. holds (get_or sets c.args.class blank)) c.deref.ensures.0
    ∙ at_class _ _ c.args.class _ a.right.1 (λ l k. a.told c.args.class k blank l)
