-- A searcher's counts as the law has them, and how large they can be.
use Rattle.std.specs.Prelude.{ℕ, ◌+◌, ◌*◌, ◌≤◌}
use Rattle.law.specs.Reading.{Counts as Tallies}
use Rattle.search.specs.declared.counts.Counts.{Counts}

abbrev pub tallied : Counts → Tallies
tallied k = record { reads = k.reads; known = k.known; built = k.built; plain = k.plain; dropped = k.dropped }

-- n reads more, by known steps
abbrev pub known_more : Tallies → ℕ → Tallies
known_more k n = record { reads = k.reads + n; known = k.known + n; built = k.built; plain = k.plain; dropped = k.dropped }

-- the counts of up to n reads; one read drops at most every step of 64 places and 256 classes, three times
pub record Bounded (n : ℕ) (k : Counts) : Type 0 where
  pub reads : k.reads ≤ n
  pub known : k.known ≤ n
  pub built : k.built ≤ n
  pub plain : k.plain ≤ n
  pub dropped : k.dropped ≤ 49152 * n

-- far from the largest number
pub record Low (k : Counts) : Type 0 where
  pub reads : k.reads ≤ 4611686018427387904
  pub known : k.known ≤ 4611686018427387904
  pub built : k.built ≤ 4611686018427387904
  pub plain : k.plain ≤ 4611686018427387904
  pub dropped : k.dropped ≤ 4611686018427387904
