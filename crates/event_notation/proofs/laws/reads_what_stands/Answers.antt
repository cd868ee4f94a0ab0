use Rattle.event_notation.proofs.Sound.{lawful}
use Rattle.event_notation.proofs.Tried.{trials}
use Rattle.event_notation.proofs.laws.reads_what_stands.Goals as goal

pub returns : goal.returns
returns c = record { law = lawful; trials = trials }
