-- One read, and a row of reads: what they do to the memory, and how they are counted.
use Rattle.std.specs.Prelude.{◌≡◌, ℕ, ◌+◌, true, ◌⊎◌, List, [], ◌∷◌, Some, None, Option}
use Rattle.theory.specs.Reads.{Read, source, target}
use Rattle.law.specs.Subject.{Subject}
use Rattle.law.specs.Memory.{Memory, Seated, Noted}

-- the counts of a search: symbols read, of these by known, built and plain steps; and steps dropped
pub record Counts : Type 0 where
  pub reads : ℕ
  pub known : ℕ
  pub built : ℕ
  pub plain : ℕ
  pub dropped : ℕ

abbrev pub zeros : Counts
zeros = record { reads = 0; known = 0; built = 0; plain = 0; dropped = 0 }

abbrev pub both : Counts → Counts → Counts
both a b = record { reads = a.reads + b.reads; known = a.known + b.known; built = a.built + b.built; plain = a.plain + b.plain; dropped = a.dropped + b.dropped }

-- there is no known step from r at the class c: r is no place, or the shelf has none
abbrev pub Unknown : {States : Type 0} → Memory States → Option ℕ → ℕ → Type 0
Unknown m None c = Unit {0}
Unknown m (Some p) c = m.known p c ≡ None

-- one read, from the memory m to n, counted as k.
-- S, the set that is read in, is seated; if the shelf has no step from there, T, to which the step rule leads, is seated, holding S
pub data OneRead {Sym States : Type 0} (M : Subject Sym States) (m : Memory States) (x : Read Sym States) (n : Memory States) (k : Counts) : Type 0 where
  -- the shelf has the step
  known : (p t gone : ℕ) → M.fit x.symbol ≡ true → Seated m (source x) None n (Some p) gone → n.known p (M.class_of x.symbol) ≡ Some t
      → k ≡ record { reads = 1; known = 1; built = 0; plain = 0; dropped = gone } → OneRead M m x n k
  -- both sets are live then, and the step is noted
  built : (h j : Memory States) (p t gone gone' gone'' : ℕ) → M.fit x.symbol ≡ true → Seated m (source x) None h (Some p) gone → h.known p (M.class_of x.symbol) ≡ None
      → Seated h (target M.machine x) (Some p) j (Some t) gone' → Noted j p (M.class_of x.symbol) t n gone''
      → k ≡ record { reads = 1; known = 0; built = 1; plain = 0; dropped = gone + gone' + gone'' } → OneRead M m x n k
  -- one of them is not
  plain : (h : Memory States) (r r' : Option ℕ) (gone gone' : ℕ) → M.fit x.symbol ≡ true → Seated m (source x) None h r gone → Unknown h r (M.class_of x.symbol)
      → Seated h (target M.machine x) r n r' gone' → (r ≡ None) ⊎ (r' ≡ None)
      → k ≡ record { reads = 1; known = 0; built = 0; plain = 1; dropped = gone + gone' } → OneRead M m x n k

-- a row of reads, with the counts of them all
abbrev pub Walk : {Sym States : Type 0} → Subject Sym States → Memory States → List (Read Sym States) → Memory States → Counts → Type 0
Walk M m [] n k = (n ≡ m) × (k ≡ zeros)
Walk {States = States} M m (x ∷ xs) n k = (j : Memory States) × ((a : Counts) × ((b : Counts) × (OneRead M m x j a × Walk M j xs n b × (k ≡ both a b))))
