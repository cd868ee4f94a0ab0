-- The positions of a pattern, made from its codes with a stack of parts.
use Rattle.std.specs.Prelude.{ℕ, suc, Bool, true, false, ◌&&◌, ◌||◌, List, [], ◌∷◌, Some, None, Option, ◌==◌}
use Rattle.pattern.specs.declared.Code.{Code}
use Rattle.pattern.specs.declared.Code.TheVariants.{Atom, Join, Choice, Star, Plus, Maybe}
use Rattle.theory.specs.Positions.{Positions, positions}

pub record Part : Type 0 where
  pub nullable : Bool
  pub first : ℕ → Bool
  pub last : ℕ → Bool

abbrev pub single : ℕ → Part
single n = record { nullable = false; first = λ p. (p == n); last = λ p. (p == n) }

abbrev pub joined : Part → Part → Part
joined l r =
    record {
      nullable = l.nullable && r.nullable;
      first = λ p. l.first p || l.nullable && r.first p;
      last = λ p. r.last p || r.nullable && l.last p;
    }

abbrev pub chosen : Part → Part → Part
chosen l r =
    record {
      nullable = l.nullable || r.nullable;
      first = λ p. l.first p || r.first p;
      last = λ p. l.last p || r.last p;
    }

abbrev pub optional : Part → Part
optional x = record { nullable = true; first = x.first; last = x.last }

-- each member of `last` is followed by each member of `first` too
abbrev pub link : (ℕ → Bool) → (ℕ → Bool) → (ℕ → ℕ → Bool) → ℕ → ℕ → Bool
link last first follow p q = follow p q || last p && first q

-- n is the next atom; `follow` holds for all parts of the stack together
abbrev pub seal : List Code → ℕ → List Part → (ℕ → ℕ → Bool) → Option Positions
seal [] n [] follow = None
seal [] n (x ∷ []) follow = Some (record { nullable = x.nullable; first = x.first; last = x.last; follow = follow })
seal [] n (x ∷ y ∷ st) follow = None
seal (Atom ∷ cs) n st follow = seal cs (suc n) (single n ∷ st) follow
seal (Join ∷ cs) n [] follow = None
seal (Join ∷ cs) n (r ∷ []) follow = None
seal (Join ∷ cs) n (r ∷ l ∷ st) follow = seal cs n (joined l r ∷ st) (link l.last r.first follow)
seal (Choice ∷ cs) n [] follow = None
seal (Choice ∷ cs) n (r ∷ []) follow = None
seal (Choice ∷ cs) n (r ∷ l ∷ st) follow = seal cs n (chosen l r ∷ st) follow
seal (Star ∷ cs) n [] follow = None
seal (Star ∷ cs) n (x ∷ st) follow = seal cs n (optional x ∷ st) (link x.last x.first follow)
seal (Plus ∷ cs) n [] follow = None
seal (Plus ∷ cs) n (x ∷ st) follow = seal cs n (x ∷ st) (link x.last x.first follow)
seal (Maybe ∷ cs) n [] follow = None
seal (Maybe ∷ cs) n (x ∷ st) follow = seal cs n (optional x ∷ st) follow

-- codes that stand for no tree, as those of an empty draft, have no positions
abbrev pub or_none : Option Positions → Positions
or_none None = positions None
or_none (Some P) = P

abbrev pub sealed : List Code → Positions
sealed cs = or_none (seal cs 1 [] (λ p q. false))
