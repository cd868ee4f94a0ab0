-- The lowest number that is in a set, or that is not.
use Rattle.std.specs.Prelude.{◌≡◌, ℕ, ◌<◌, ◌≤◌, true, false}
use Rattle.sets.specs.Members.{Members}

-- p is the lowest number below 64 that is not in the set
pub record LowestFree (f : Members) (p : ℕ) : Type 0 where
  pub low : p < 64
  pub free : f p ≡ false
  pub lower : (k : ℕ) → k < p → f k ≡ true

-- p is the lowest member that is not below from
pub record LowestFrom (f : Members) (from p : ℕ) : Type 0 where
  pub low : from ≤ p
  pub member : f p ≡ true
  pub lower : (k : ℕ) → from ≤ k → k < p → f k ≡ false
