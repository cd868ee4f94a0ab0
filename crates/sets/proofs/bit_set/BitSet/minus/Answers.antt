use Rattle.std.proofs.Common.{arith}
use Rattle.sets.proofs.Sets.{less_mask}
use Rattle.sets.specs.BitSets.{members}
use Rattle.sets.proofs.bit_set.BitSet.minus.Goals as goal

pub returns : goal.returns
unfolding members
returns g c = less_mask 64 c.args.self.bits c.args.other.bits (omega arith)
