-- Positions of a pattern. Position p is the atom p; 0 is the beginning and no atom.
use Rattle.std.specs.Prelude.{ℕ, Bool, true, false, ◌&&◌, ◌||◌, Some, None, Option, ◌==◌}
use Rattle.pattern.specs.Tree.{Tree}
use Rattle.pattern.specs.Tree.Tree.{atom, join, choice, star, plus, maybe}
use Rattle.pattern.specs.Codes.{Numbered, count}

-- whether the empty word is one of the tree's
abbrev pub nullable : Tree → Bool
nullable (atom n) = false
nullable (join l r) = nullable l && nullable r
nullable (choice l r) = nullable l || nullable r
nullable (star t) = true
nullable (plus t) = nullable t
nullable (maybe t) = true

-- whether a word may begin at p
abbrev pub first : Tree → ℕ → Bool
first (atom n) p = p == n
first (join l r) p = first l p || nullable l && first r p
first (choice l r) p = first l p || first r p
first (star t) p = first t p
first (plus t) p = first t p
first (maybe t) p = first t p

-- whether a word may end at p
abbrev pub last : Tree → ℕ → Bool
last (atom n) p = p == n
last (join l r) p = last r p || nullable r && last l p
last (choice l r) p = last l p || last r p
last (star t) p = last t p
last (plus t) p = last t p
last (maybe t) p = last t p

-- whether q may follow p within a word
abbrev pub follow : Tree → ℕ → ℕ → Bool
follow (atom n) p q = false
follow (join l r) p q = follow l p q || follow r p q || last l p && first r q
follow (choice l r) p q = follow l p q || follow r p q
follow (star t) p q = follow t p q || last t p && first t q
follow (plus t) p q = follow t p q || last t p && first t q
follow (maybe t) p q = follow t p q

-- what a search needs to know of a pattern
pub record Positions : Type 0 where
  pub nullable : Bool
  pub first : ℕ → Bool
  pub last : ℕ → Bool
  pub follow : ℕ → ℕ → Bool

-- the positions of a pattern; one without a tree has none
abbrev pub positions : Option Tree → Positions
positions None = record { nullable = false; first = λ p. false; last = λ p. false; follow = λ p q. false }
positions (Some t) = record { nullable = nullable t; first = first t; last = last t; follow = follow t }

-- the atoms have the numbers from 1 on, in their order: so has the tree of any codes
abbrev pub FromOne : Option Tree → Type 0
FromOne None = Unit {0}
FromOne (Some t) = Numbered 1 t

-- how many atoms a pattern has
abbrev pub atoms : Option Tree → ℕ
atoms None = 0
atoms (Some t) = count t
