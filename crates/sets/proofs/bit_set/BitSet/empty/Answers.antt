use Rattle.sets.proofs.Sets.{zero_mask}
use Rattle.sets.specs.BitSets.{members}
use Rattle.sets.proofs.bit_set.BitSet.empty.Goals as goal

pub returns : goal.returns
unfolding members
returns g c = zero_mask 64
