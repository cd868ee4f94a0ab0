-- What a user of the sets may want to know of them without looking into the bits.
use Rattle.std.proofs.Common.{◌≡◌, ℕ, ◌<◌, ◌≤◌, true, false, Decides, eqb, ap}
use Rattle.std.proofs.lemmas.Bool.{eqb-true, eq-eqb}
use Rattle.sets.specs.BitSets.{members, set_of_bits}
use Rattle.sets.specs.Positions.{alike, width}
use Rattle.sets.specs.declared.bit_set.BitSet.{BitSet}
use Rattle.sets.proofs.Sets.{mask_low, mask_out}

pub members_low : {K : Type 0} (s : BitSet K) (k : ℕ) → members s k ≡ true → k < 64
unfolding members
members_low s k e = mask_low 64 s.bits k e

pub members_high : {K : Type 0} (s : BitSet K) (k : ℕ) → 64 ≤ k → members s k ≡ false
unfolding members
members_high s k h = mask_out 64 s.bits k h

-- every position of a pattern of at most 63 atoms lies below the width
pub width_enough : (k : ℕ) → k < 64 → k < width
width_enough k h = h

-- a set is its number
pub same_bits : {K : Type 0} (s t : BitSet K) → Decides (eqb s.bits t.bits) (s ≡ t)
same_bits s t = (λ e. ap set_of_bits (eqb-true s.bits t.bits e), λ e. eq-eqb s.bits t.bits (ap (λ x. x.bits) e))

-- `alike` is equality
pub alike_is : {K : Type 0} (s t : BitSet K) → Decides (alike s t) (s ≡ t)
unfolding alike
alike_is s t = same_bits s t
