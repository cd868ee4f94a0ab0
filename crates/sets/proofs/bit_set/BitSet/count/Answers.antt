use Rattle.std.proofs.Common.{arith}
use Rattle.sets.proofs.Sets.{count_mask}
use Rattle.sets.specs.BitSets.{members}
use Rattle.sets.proofs.bit_set.BitSet.count.Goals as goal

pub returns : goal.returns
unfolding members
returns g c = count_mask 64 c.args.self.bits (omega arith)
