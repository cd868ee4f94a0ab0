use Rattle.sets.proofs.Sets.{either_mask}
use Rattle.sets.specs.BitSets.{members}
use Rattle.sets.proofs.bit_set.BitSet.union.Goals as goal

pub returns : goal.returns
unfolding members
returns g c = either_mask 64 c.args.self.bits c.args.other.bits
