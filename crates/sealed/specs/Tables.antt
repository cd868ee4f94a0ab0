-- A table of sets of positions, a row for each position.
use Rattle.std.specs.Prelude.{ℕ, Bool, cond, List, ◌==◌, slice_index_or}
use Rattle.sets.specs.Positions.{holds, PositionSet}
use Rattle.theory.specs.Positions.{Positions}
use Rattle.alphabet.specs.Sets.{blank}

-- whether the row p has q
abbrev pub entry : List PositionSet → ℕ → ℕ → Bool
entry rows p q = holds (slice_index_or rows p blank) q

-- q follows p; the first positions follow 0, the beginning
abbrev pub following : Positions → ℕ → ℕ → Bool
following P p q = cond (p == 0) (P.first q) (P.follow p q)

-- p stands before q; the last positions stand before 0, which is the end when one reads back
abbrev pub preceding : Positions → ℕ → ℕ → Bool
preceding P q p = cond (q == 0) (P.last p) (P.follow p q)

-- the rows that have q
abbrev pub column : List PositionSet → ℕ → ℕ → Bool
column rows q p = entry rows p q
