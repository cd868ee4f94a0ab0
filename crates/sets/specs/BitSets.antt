-- The members of a set, of whatever kind: the numbers below 64 whose binary digit is 1.
use Rattle.std.specs.Prelude.{ℕ}
use Rattle.sets.specs.Members.{Members}
use Rattle.sets.specs.Masks.{mask}
use Rattle.sets.specs.declared.bit_set.BitSet.{BitSet}

unfoldable pub members : {K : Type 0} → BitSet K → Members
members s = mask 64 s.bits

-- the set that is read from a number
abbrev pub set_of_bits : {K : Type 0} → ℕ → BitSet K
set_of_bits n = record { bits = n; kind = record {} }
