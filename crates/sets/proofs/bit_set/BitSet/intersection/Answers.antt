use Rattle.sets.proofs.Sets.{shared_mask}
use Rattle.sets.specs.BitSets.{members}
use Rattle.sets.proofs.bit_set.BitSet.intersection.Goals as goal

pub returns : goal.returns
unfolding members
returns g c = shared_mask 64 c.args.self.bits c.args.other.bits
