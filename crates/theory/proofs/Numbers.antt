-- The atoms of a tree numbered from 1 on are distinct, and none is 0.
use Rattle.std.proofs.Common.{◌≡◌, ℕ, ◌+◌, ◌<◌, ◌≤◌, ◌⊎◌, inl, inr, arith}
use Rattle.pattern.specs.Tree.{Tree}
use Rattle.pattern.specs.Tree.Tree.{atom, join, choice, star, plus, maybe}
use Rattle.pattern.specs.Codes.{count, Numbered}
use Rattle.theory.proofs.Places.{First, Last, Follow}

-- p is the number of an atom
abbrev pub In : Tree → ℕ → Type 0
In (atom n) p = p ≡ n
In (join l r) p = In l p ⊎ In r p
In (choice l r) p = In l p ⊎ In r p
In (star t) p = In t p
In (plus t) p = In t p
In (maybe t) p = In t p

-- no two atoms have one number
abbrev pub Distinct : Tree → Type 0
Distinct (atom n) = Unit {0}
Distinct (join l r) = Distinct l × Distinct r × ((p : ℕ) → In l p → In r p → ⊥)
Distinct (choice l r) = Distinct l × Distinct r × ((p : ℕ) → In l p → In r p → ⊥)
Distinct (star t) = Distinct t
Distinct (plus t) = Distinct t
Distinct (maybe t) = Distinct t

-- the numbers stand in a row
pub range : (t : Tree) (n p : ℕ) → Numbered n t → In t p → (n ≤ p) × (p < n + count t)
range (atom k) n p h i = omega arith
range (join l r) n p h (inl i) = let x = range l n p h.0 i in omega arith
range (join l r) n p h (inr i) = let x = range r (n + count l) p h.1 i in omega arith
range (choice l r) n p h (inl i) = let x = range l n p h.0 i in omega arith
range (choice l r) n p h (inr i) = let x = range r (n + count l) p h.1 i in omega arith
range (star t) n p h i = range t n p h i
range (plus t) n p h i = range t n p h i
range (maybe t) n p h i = range t n p h i

pub no_zero : (t : Tree) → Numbered 1 t → In t 0 → ⊥
no_zero t h i = let x = range t 1 0 h i in omega arith

pub distinct : (t : Tree) (n : ℕ) → Numbered n t → Distinct t
distinct (atom k) n h = tt
distinct (join l r) n h = (
  distinct l n h.0,
  distinct r (n + count l) h.1,
  λ p i j. let x = range l n p h.0 i in let y = range r (n + count l) p h.1 j in omega arith,
)
distinct (choice l r) n h = (
  distinct l n h.0,
  distinct r (n + count l) h.1,
  λ p i j. let x = range l n p h.0 i in let y = range r (n + count l) p h.1 j in omega arith,
)
distinct (star t) n h = distinct t n h
distinct (plus t) n h = distinct t n h
distinct (maybe t) n h = distinct t n h

pub first_in : (t : Tree) (p : ℕ) → First t p → In t p
first_in (atom n) p h = h
first_in (join l r) p (inl h) = inl (first_in l p h)
first_in (join l r) p (inr h) = inr (first_in r p h.1)
first_in (choice l r) p (inl h) = inl (first_in l p h)
first_in (choice l r) p (inr h) = inr (first_in r p h)
first_in (star t) p h = first_in t p h
first_in (plus t) p h = first_in t p h
first_in (maybe t) p h = first_in t p h

pub last_in : (t : Tree) (p : ℕ) → Last t p → In t p
last_in (atom n) p h = h
last_in (join l r) p (inl h) = inr (last_in r p h)
last_in (join l r) p (inr h) = inl (last_in l p h.1)
last_in (choice l r) p (inl h) = inl (last_in l p h)
last_in (choice l r) p (inr h) = inr (last_in r p h)
last_in (star t) p h = last_in t p h
last_in (plus t) p h = last_in t p h
last_in (maybe t) p h = last_in t p h

pub follow_in : (t : Tree) (p q : ℕ) → Follow t p q → In t p × In t q
follow_in (atom n) p q h = absurd h
follow_in (join l r) p q (inl (inl h)) = let f = follow_in l p q h in (inl f.0, inl f.1)
follow_in (join l r) p q (inl (inr h)) = let f = follow_in r p q h in (inr f.0, inr f.1)
follow_in (join l r) p q (inr h) = (inl (last_in l p h.0), inr (first_in r q h.1))
follow_in (choice l r) p q (inl h) = let f = follow_in l p q h in (inl f.0, inl f.1)
follow_in (choice l r) p q (inr h) = let f = follow_in r p q h in (inr f.0, inr f.1)
follow_in (star t) p q (inl h) = follow_in t p q h
follow_in (star t) p q (inr h) = (last_in t p h.0, first_in t q h.1)
follow_in (plus t) p q (inl h) = follow_in t p q h
follow_in (plus t) p q (inr h) = (last_in t p h.0, first_in t q h.1)
follow_in (maybe t) p q h = follow_in t p q h
