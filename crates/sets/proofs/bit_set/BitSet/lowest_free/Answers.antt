use Rattle.std.proofs.Common.{refl, arith}
use Rattle.sets.proofs.Sets.{free_mask, below_free, no_free}
use Rattle.sets.specs.BitSets.{members}
use Rattle.sets.proofs.bit_set.BitSet.lowest_free.Goals as goal

pub returns-then-p-lt64 : goal.returns-then-p-lt64
unfolding members
returns-then-p-lt64 g c =
    record {
      low = omega arith;
      free = free_mask 64 c.args.self.bits _ (omega arith) refl (omega arith);
      lower = λ k h. below_free 64 c.args.self.bits k _ (omega arith) refl (omega arith) h;
    }

pub returns-else-p-lt64 : goal.returns-else-p-lt64
unfolding members
returns-else-p-lt64 g c = no_free 64 c.args.self.bits _ (omega arith) refl (omega arith)
