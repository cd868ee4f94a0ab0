-- The step rule, ahead and back, over sets of positions given by their members.
use Rattle.std.specs.Prelude.{◌≡◌, ℕ, Bool, T, ◌⊎◌, ◌↔◌, List, [], ◌∷◌}
use Rattle.theory.specs.Words.{Begins}
use Rattle.theory.specs.Positions.{Positions}

-- the set {0}, at which both scans start
abbrev pub Begin : ℕ → Type 0
Begin p = p ≡ 0

-- q follows p; the first positions follow 0
abbrev pub Next : Positions → ℕ → ℕ → Type 0
Next P p q = ((p ≡ 0) × T (P.first q)) ⊎ T (P.follow p q)

-- ahead: the positions that a passes and that follow a member of S
abbrev pub Ahead : {Sym : Type 0} → (ℕ → Sym → Bool) → Positions → (ℕ → Type 0) → Sym → ℕ → Type 0
Ahead passes P S a q = T (passes q a) × ((p : ℕ) × S p × Next P p q)

-- back: 0, and the positions that a passes and that either are last, with 0 in S, or are followed by a member of S
abbrev pub Back : {Sym : Type 0} → (ℕ → Sym → Bool) → Positions → (ℕ → Type 0) → Sym → ℕ → Type 0
Back passes P S a p = (p ≡ 0) ⊎ (T (passes p a) × ((T (P.last p) × S 0) ⊎ ((q : ℕ) × S q × T (P.follow p q))))

-- the set that w leads to, ahead from S
abbrev pub Reach : {Sym : Type 0} → (ℕ → Sym → Bool) → Positions → (ℕ → Type 0) → List Sym → ℕ → Type 0
Reach passes P S [] = S
Reach passes P S (a ∷ w) = Reach passes P (Ahead passes P S a) w

-- the set that w leads to, read from right to left from {0}
abbrev pub Backed : {Sym : Type 0} → (ℕ → Sym → Bool) → Positions → List Sym → ℕ → Type 0
Backed passes P [] = Begin
Backed passes P (a ∷ w) = Back passes P (Backed passes P w) a

-- S holds a position with f
abbrev pub Meets : (ℕ → Type 0) → (ℕ → Bool) → Type 0
Meets S f = (p : ℕ) × S p × T (f p)

-- by the step rule the positions P tell the words L
pub record Tell {Sym : Type 0} (passes : ℕ → Sym → Bool) (P : Positions) (L : List Sym → Type 0) : Type 0 where
  -- the set that a row leads to from {0} holds a last position exactly when the row is a word
  pub ahead : (a : Sym) (w : List Sym) → Meets (Reach passes P Begin (a ∷ w)) P.last ↔ L (a ∷ w)
  pub empty : T P.nullable ↔ L []
  -- read back from a record's end, the set at a place holds a first position exactly when a non-empty word begins there;
  -- w is the record from that place on
  pub back : (w : List Sym) → Meets (Backed passes P w) P.first ↔ Begins L w
