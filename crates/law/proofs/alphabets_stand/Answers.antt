use Rattle.law.proofs.Alphabets.{from_alphabet}
use Rattle.law.proofs.alphabets_stand.Goals as goal

pub returns : goal.returns
returns g c = from_alphabet _ _
