-- The tables show the positions of a pattern.
use Rattle.std.specs.Prelude.{◌≡◌, ℕ, Bool}
use Rattle.theory.specs.Positions.{Positions}
use Rattle.theory.specs.Seal as seal
use Rattle.sealed.specs.declared.tables.Tables.{Tables}
use Rattle.sealed.specs.Tables.{entry, following, preceding}

-- the positions of a pattern that is one part
abbrev pub whole : seal.Part → (ℕ → ℕ → Bool) → Positions
whole x follow = record { nullable = x.nullable; first = x.first; last = x.last; follow = follow }

abbrev pub Shows : Positions → Tables → Type 0
Shows P t =
    (t.nullable ≡ P.nullable)
    × ((p q : ℕ) → entry t.next p q ≡ following P p q)
    × ((q p : ℕ) → entry t.prior q p ≡ preceding P q p)
