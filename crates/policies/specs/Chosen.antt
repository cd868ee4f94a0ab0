-- What the clock chooses, told without its way: by how far a place lies ahead of the hand.
use Rattle.std.specs.Prelude.{◌≡◌, ℕ, ◌+◌, ◌-◌, ◌<◌, ◌≤◌, true, false, cond, not, ◌&&◌, ◌⊎◌, Some, None, Option, nat_lt}
use Rattle.sets.specs.Members.{Members, less}
use Rattle.policies.specs.Round.{only, hand_after}

-- how many places upward and round lead from the hand to k
abbrev pub ahead : ℕ → ℕ → ℕ
ahead hand k = cond (nat_lt k hand) (k + 64 - hand) (k - hand)

-- the marks without those of the places that may be chosen and lie fewer than d places ahead
abbrev pub cleared : Members → Members → ℕ → ℕ → Members
cleared may marks hand d = λ k. marks k && not (may k && nat_lt (ahead hand k) d)

-- some place that may be chosen has no mark. The nearest such is chosen; those nearer than it had marks, and lose them
pub record NearestUnmarked (may marks : Members) (hand p : ℕ) (left : Members) : Type 0 where
  pub allowed : may p ≡ true
  pub unmarked : marks p ≡ false
  pub nearer : (k : ℕ) → may k ≡ true → ahead hand k < ahead hand p → marks k ≡ true
  pub rest : left ≡ cleared may marks hand (ahead hand p)

-- all places that may be chosen have marks. The nearest is chosen, and all of them lose their marks
pub record NearestOfAll (may marks : Members) (hand p : ℕ) (left : Members) : Type 0 where
  pub allowed : may p ≡ true
  pub marked : (k : ℕ) → may k ≡ true → marks k ≡ true
  pub nearest : (k : ℕ) → may k ≡ true → ahead hand p ≤ ahead hand k
  pub rest : left ≡ less marks may

-- none is chosen only if no place may be, and then no mark is cleared
abbrev pub Chosen : Members → Members → ℕ → Option ℕ → Members → Type 0
Chosen may marks hand None left = ((k : ℕ) → may k ≡ false) × (left ≡ marks)
Chosen may marks hand (Some p) left = NearestUnmarked may marks hand p left ⊎ NearestOfAll may marks hand p left

-- a choice: the place chosen, if any, is all that it answers, and the hand then stands behind it
pub record Choice (may marks : Members) (hand : ℕ) (answer left : Members) (moved : ℕ) : Type 0 where
  pub place : Option ℕ
  pub names : answer ≡ only place
  pub chosen : Chosen may marks hand place left
  pub behind : moved ≡ hand_after place hand
