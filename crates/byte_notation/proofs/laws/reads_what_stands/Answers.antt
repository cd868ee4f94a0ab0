use Rattle.byte_notation.proofs.Sound.{lawful}
use Rattle.byte_notation.proofs.Tried.{trials}
use Rattle.byte_notation.proofs.laws.reads_what_stands.Goals as goal

pub returns : goal.returns
returns c = record { law = lawful; trials = trials }
