use Rattle.std.proofs.Common.{arith}
use Rattle.sets.proofs.Sets.{empty_mask}
use Rattle.sets.specs.BitSets.{members}
use Rattle.sets.proofs.bit_set.BitSet.is_empty.Goals as goal

pub returns : goal.returns
unfolding members
returns g c = empty_mask 64 c.args.self.bits (omega arith)
