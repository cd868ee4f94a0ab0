-- A set of numbers is the test that says which of them are its members; here are the sets that are made from others.
use Rattle.std.specs.Prelude.{◌≡◌, ℕ, zero, suc, ◌+◌, Bool, true, false, cond, not, ◌&&◌, ◌||◌, ◌==◌, nat_lt}

abbrev pub Members : Type 0
Members = ℕ → Bool

abbrev pub none : Members
none = λ _. false

-- every number below w
abbrev pub below : ℕ → Members
below w = λ k. nat_lt k w

-- the set with p too; a p that is not below the width w is ignored
abbrev pub plus : ℕ → Members → ℕ → Members
plus w f p = λ k. (nat_lt p w && k == p) || f k

-- the set without p
abbrev pub except : Members → ℕ → Members
except f p = λ k. f k && not (k == p)

-- what is in the first and not in the second
abbrev pub less : Members → Members → Members
less f g = λ k. f k && not (g k)

-- what is in one of the two
abbrev pub either : Members → Members → Members
either f g = λ k. f k || g k

-- what is in both
abbrev pub shared : Members → Members → Members
shared f g = λ k. f k && g k

-- a member of both
abbrev pub Meet : Members → Members → Type 0
Meet f g = (k : ℕ) × (f k ≡ true) × (g k ≡ true)

-- how many of the numbers below n are members
unfoldable pub tally : Members → ℕ → ℕ
tally f zero = 0
tally f (suc n) = cond (f n) 1 0 + tally f n
