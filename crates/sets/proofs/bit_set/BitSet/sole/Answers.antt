use Rattle.std.proofs.Common.{refl, ap, ◌∙◌, arith}
use Rattle.sets.specs.Masks.{mask}
use Rattle.sets.specs.BitSets.{members}
use Rattle.sets.proofs.Sets.{pow_mask, not_sole}
use Rattle.sets.proofs.bit_set.BitSet.sole.Goals as goal
use Rattle.sets.proofs.bit_set.BitSet.sole.Goals.{else-p-lt64-via-then-p-lt64+else-self-p, else-p-lt64-via-else-p-lt64}

pub returns-then-self-p : goal.returns-then-self-p
unfolding members
returns-then-self-p g c = (c.if-p-lt64.true, ap (mask 64) c.if-self-p.true ∙ pow_mask 64 _ c.if-p-lt64.true)

pub returns-else-p-lt64 : goal.returns-else-p-lt64
unfolding members
returns-else-p-lt64 g c = λ q h e.
    not_sole 64 c.args.self.bits _ q (omega arith) refl
    (λ l is. elim c.else-p-lt64.branch [ else-p-lt64-via-then-p-lt64+else-self-p w ↦ w.if-self-p.false is | else-p-lt64-via-else-p-lt64 w ↦ omega (arith, w.if-p-lt64.false) ])
    h e
