-- What a policy is told, and what it may choose of the live places that it was told of.
use Rattle.std.specs.Prelude.{◌≡◌, ℕ, true, Some, Option, ◌≢◌}
use Rattle.sets.specs.Members.{Members}

-- the place is live and not held
abbrev pub May : Members → Option ℕ → ℕ → Type 0
May live held k = (live k ≡ true) × (held ≢ Some k)

-- what a policy hears: that a set was seated at a place, that places were dropped, that they were met again;
-- and that it was asked, while a place may be held, and chose these
pub data News : Type 0 where
  seated : ℕ → News
  dropped : Members → News
  met : Members → News
  chose : Option ℕ → Members → News
