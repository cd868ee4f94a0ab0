-- Sets of positions in some representation, with the step rule.
use Rattle.std.specs.Prelude.{◌≡◌, ℕ, Bool, T, ◌↔◌}
use Rattle.theory.specs.declared.Direction.{Direction}
use Rattle.theory.specs.declared.Direction.TheVariants as way
use Rattle.theory.specs.Positions.{Positions}
use Rattle.theory.specs.Steps.{Begin, Ahead, Back, Meets}

pub record Machine (Sym Set : Type 0) : Type 0 where
  pub has : Set → ℕ → Bool
  pub begin : Set
  pub ahead : Set → Sym → Set
  pub back : Set → Sym → Set
  -- whether a set holds a first position, holds a last one, is empty
  pub first : Set → Bool
  pub last : Set → Bool
  pub empty : Set → Bool
  pub nullable : Bool

abbrev pub Has : {Sym Set : Type 0} → Machine Sym Set → Set → ℕ → Type 0
Has m S p = T (m.has S p)

-- the step rule in one direction
abbrev pub rule : {Sym Set : Type 0} → Machine Sym Set → Direction → Set → Sym → Set
rule m way.Ahead = m.ahead
rule m way.Back = m.back

-- the sets are those that the step rule gives for the positions P
pub record Lawful {Sym Set : Type 0} (passes : ℕ → Sym → Bool) (P : Positions) (m : Machine Sym Set) : Type 0 where
  pub begin_is : (p : ℕ) → Has m m.begin p ↔ Begin p
  pub ahead_is : (S : Set) (a : Sym) (p : ℕ) → Has m (m.ahead S a) p ↔ Ahead passes P (Has m S) a p
  pub back_is : (S : Set) (a : Sym) (p : ℕ) → Has m (m.back S a) p ↔ Back passes P (Has m S) a p
  pub first_is : (S : Set) → T (m.first S) ↔ Meets (Has m S) P.first
  pub last_is : (S : Set) → T (m.last S) ↔ Meets (Has m S) P.last
  pub empty_is : (S : Set) → T (m.empty S) ↔ ((p : ℕ) → Has m S p → ⊥)
  pub nullable_is : m.nullable ≡ P.nullable

-- sets with the same members are one set
abbrev pub Extensional : {Sym Set : Type 0} → Machine Sym Set → Type 0
Extensional {Sym} {Set} m = (S R : Set) → ((p : ℕ) → Has m S p ↔ Has m R p) → S ≡ R
