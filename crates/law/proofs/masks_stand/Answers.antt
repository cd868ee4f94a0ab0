use Rattle.law.proofs.Alphabets.{from_masks}
use Rattle.law.proofs.masks_stand.Goals as goal

pub returns : goal.returns
returns g c = from_masks _
