use Rattle.std.proofs.Common.{◌/◌, ◌^◌, eqb, sym, ap, ◌∙◌, arith}
use Rattle.std.proofs.lemmas.Bool.{le-ltb}
use Rattle.sets.proofs.Bit.{low_bit}
use Rattle.sets.proofs.Sets.{mask_in, mask_out}
use Rattle.sets.specs.BitSets.{members}
use Rattle.sets.proofs.bit_set.BitSet.has.Goals as goal

pub returns-then-p-lt64 : goal.returns-then-p-lt64
unfolding members
returns-then-p-lt64 g c =
    ap (λ x. eqb x 1) (low_bit (c.args.self.bits / 2 ^ c.args.p)) ∙ sym (mask_in 64 c.args.self.bits c.args.p (omega arith))

pub returns-else-p-lt64 : goal.returns-else-p-lt64
unfolding members
returns-else-p-lt64 g c = le-ltb c.args.p 64 (omega arith) ∙ sym (mask_out 64 c.args.self.bits c.args.p (omega arith))
