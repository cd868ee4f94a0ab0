-- A star is a plus that may be empty.
use Rattle.std.proofs.Common.{◌≡◌, ℕ, ◌+◌, Bool, List, [], ◌∷◌, Some, None, Option, refl, ◌∙◌, arith}
use Rattle.pattern.specs.declared.Code.{Code}
use Rattle.pattern.specs.declared.Code.TheVariants.{Star, Plus, Maybe}
use Rattle.theory.specs.Seal.{seal, Part}
use Rattle.sealed.specs.declared.assembly.Assembly.{Assembly}
use Rattle.sealed.specs.Tables.{entry}
use Rattle.sealed.specs.Assembling.{stack, Taken, atom_codes}

pub star_is : (n : ℕ) (cs : List Code) (st : List Part) (f : ℕ → ℕ → Bool) → seal (Star ∷ cs) n st f ≡ seal (Plus ∷ Maybe ∷ cs) n st f
star_is n cs [] f = refl
star_is n cs (x ∷ st) f = refl

pub star_taken : (a b d : Assembly) (r : Option (Unit {0})) → Taken Plus a b (Some tt) → Taken Maybe b d r → Taken Star a d r
star_taken a b d (Some u) plus maybe = λ cs. star_is (a.atoms + 1) cs (stack a.parts.items) (entry a.next) ∙ plus (Maybe ∷ cs) ∙ maybe cs
star_taken a b d None plus maybe = λ cs. star_is (a.atoms + 1) cs (stack a.parts.items) (entry a.next) ∙ plus (Maybe ∷ cs) ∙ maybe cs

pub star_refused : (a b : Assembly) → Taken Plus a b None → Taken Star a b None
star_refused a b plus = λ cs. star_is (a.atoms + 1) cs (stack a.parts.items) (entry a.next) ∙ plus (Maybe ∷ cs)

-- none of the operators is an atom
pub no_atom : (code : Code) → code ≡ Star → (n m : ℕ) → m ≡ n → m ≡ n + atom_codes (code ∷ [])
no_atom code e n m f = rw e (omega arith)
