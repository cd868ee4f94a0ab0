use Rattle.std.proofs.Common.{refl}
use Rattle.event_notation.proofs.Tried.{trials}
use Rattle.event_notation.proofs.Events.last_code.Goals as goal

pub returns : goal.returns
returns c = record { is = refl; trials = trials }
