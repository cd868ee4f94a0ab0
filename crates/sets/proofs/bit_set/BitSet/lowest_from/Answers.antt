use Rattle.std.proofs.Common.{refl, arith}
use Rattle.sets.specs.BitSets.{members}
use Rattle.sets.proofs.Sets.{mask_out, from_here, from_before, from_none}
use Rattle.sets.proofs.bit_set.BitSet.lowest_from.Goals as goal

pub returns-then-from-ge64 : goal.returns-then-from-ge64
unfolding members
returns-then-from-ge64 g c = λ k l. mask_out 64 c.args.self.bits k (omega arith)

pub returns-then-p-lt64 : goal.returns-then-p-lt64
unfolding members
returns-then-p-lt64 g c =
    record {
      low = omega arith;
      member = from_here 64 c.args.self.bits c.args.from _ (omega arith) refl (omega arith);
      lower = λ k l h. from_before 64 c.args.self.bits c.args.from _ k refl l h;
    }

pub returns-else-p-lt64 : goal.returns-else-p-lt64
unfolding members
returns-else-p-lt64 g c = λ k l. from_none 64 c.args.self.bits c.args.from _ k refl (omega arith) l
