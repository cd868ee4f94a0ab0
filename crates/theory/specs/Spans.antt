-- What a find and a list answer, of any language L: in POSIX's words the leftmost, then longest, match that is not empty.
use Rattle.std.specs.Prelude.{ℕ, suc, ◌-◌, ◌<◌, ◌≤◌, List, [], ◌∷◌, length, take, drop, Some, None, Option}
use Rattle.theory.specs.declared.Span.{Span}

-- the symbols of a record in a span
abbrev pub stretch : {Sym : Type 0} → List Sym → Span → List Sym
stretch r x = take (x.end - x.start) (drop x.start r)

-- the span lies in the record, is not empty, and holds a word
pub record Match {Sym : Type 0} (L : List Sym → Type 0) (r : List Sym) (x : Span) : Type 0 where
  pub some : x.start < x.end
  pub inside : x.end ≤ length r
  pub word : L (stretch r x)

-- of the matches from `from` on, none starts before x, and of those that start with x, none ends behind it
pub record LeftmostLongest {Sym : Type 0} (L : List Sym → Type 0) (r : List Sym) (from : ℕ) (x : Span) : Type 0 where
  pub behind : from ≤ x.start
  pub match : Match L r x
  pub leftmost : (y : Span) → from ≤ y.start → Match L r y → x.start ≤ y.start
  pub longest : (e : ℕ) → Match L r (record { start = x.start; end = e }) → e ≤ x.end

-- what a find from `from` answers; none exactly when there is no match
abbrev pub Finds : {Sym : Type 0} → (List Sym → Type 0) → List Sym → ℕ → Option Span → Type 0
Finds L r from None = (y : Span) → from ≤ y.start → Match L r y → ⊥
Finds L r from (Some x) = LeftmostLongest L r from x

-- what a list from `from` on writes into so many entries, and the rest:
-- each span is the answer from the end before it, until none is found or one is found with no entry free
pub data Lists {Sym : Type 0} (L : List Sym → Type 0) (r : List Sym) : ℕ → ℕ → List Span → Option ℕ → Type 0 where
  done : {from entries : ℕ} → Finds L r from None → Lists L r from entries [] None
  full : {from : ℕ} (x : Span) → Finds L r from (Some x) → Lists L r from 0 [] (Some from)
  next : {from entries : ℕ} {xs : List Span} {rest : Option ℕ} (x : Span) → Finds L r from (Some x) → Lists L r x.end entries xs rest → Lists L r from (suc entries) (x ∷ xs) rest

-- the end of the last span of a list, or `from`
abbrev pub end_of : ℕ → List Span → ℕ
end_of from [] = from
end_of from (x ∷ xs) = end_of x.end xs
