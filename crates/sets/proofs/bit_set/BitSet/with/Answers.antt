use Rattle.std.proofs.Common.{arith}
use Rattle.sets.proofs.Sets.{plus_mask, plus_high}
use Rattle.sets.specs.BitSets.{members}
use Rattle.sets.proofs.bit_set.BitSet.with.Goals as goal

pub returns-then-p-lt64 : goal.returns-then-p-lt64
unfolding members
returns-then-p-lt64 g c = plus_mask 64 c.args.self.bits c.args.p (omega arith)

pub returns-else-p-lt64 : goal.returns-else-p-lt64
unfolding members
returns-else-p-lt64 g c = plus_high 64 c.args.self.bits c.args.p (omega arith)
