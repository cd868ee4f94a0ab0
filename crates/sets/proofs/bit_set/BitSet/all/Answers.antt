use Rattle.sets.proofs.Sets.{full_mask}
use Rattle.sets.specs.BitSets.{members}
use Rattle.sets.proofs.bit_set.BitSet.all.Goals as goal

pub returns : goal.returns
unfolding members
returns g c = full_mask 64
