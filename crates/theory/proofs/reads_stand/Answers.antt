use Rattle.theory.proofs.Reading.{reading}
use Rattle.theory.proofs.reads_stand.Goals as goal

pub returns : goal.returns
returns g c = reading
