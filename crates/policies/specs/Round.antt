-- The live places that may be chosen, and the clock's way round the 64 places.
use Rattle.std.specs.Prelude.{ℕ, zero, suc, ◌+◌, cond, Some, None, Option, nat_lt}
use Rattle.sets.specs.Members.{Members, none, plus, except}

-- the live places without the held one
abbrev pub others : Members → Option ℕ → Members
others live None = live
others live (Some p) = except live p

-- the place behind a place, upward and round
abbrev pub next : ℕ → ℕ
next at = cond (nat_lt at 63) (at + 1) 0

-- the place at which the clock stops, and the marks that are left
pub record Way : Type 0 where
  pub found : Option ℕ
  pub marks : Members

abbrev pub way : Option ℕ → Members → Way
way o m = record { found = o; marks = m }

-- at most n places upward and round: past those that may not be chosen, clearing the marks of the others,
-- to the first that has no mark
unfoldable pub going : Members → ℕ → Members → ℕ → Way
going may zero marks at = way None marks
going may (suc n) marks at =
    cond (may at) (cond (marks at) (going may n (except marks at) (next at)) (way (Some at) marks)) (going may n marks (next at))

-- twice round is enough: in the second round every mark is cleared
abbrev pub round : Members → Members → ℕ → Way
round may marks hand = going may 128 marks hand

-- the place found, as a set
abbrev pub only : Option ℕ → Members
only None = none
only (Some p) = plus 64 none p

-- the hand stands behind the place found; with none it stays
abbrev pub hand_after : Option ℕ → ℕ → ℕ
hand_after None hand = hand
hand_after (Some p) hand = next p
