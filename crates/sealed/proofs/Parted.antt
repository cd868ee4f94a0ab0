-- Parts by the members of their sets.
use Rattle.std.proofs.Common.{◌≡◌, ℕ, ◌<◌, Bool, true, false, ◌&&◌, ◌||◌, eqb, ltb, ap, ◌∙◌}
use mathlib.Core.Path.{fun_ext}
use mathlib.Core.Bool.{or-false}
use Rattle.std.proofs.lemmas.Bool.{lt-ltb}
use Rattle.sets.specs.Members.{none, plus}
use Rattle.sets.specs.Positions.{width}
use Rattle.theory.specs.Seal as seal

-- parts with the same fields are one
pub same_part : (n n' : Bool) (f f' g g' : ℕ → Bool) → n ≡ n' → f ≡ f' → g ≡ g' → ◌≡◌ {A = seal.Part} (record { nullable = n; first = f; last = g }) (record { nullable = n'; first = f'; last = g' })
same_part n n' f f' g g' e d h = λ i. record { nullable = e i; first = d i; last = h i }

in_width : (p : ℕ) → p < 64 → ltb p width ≡ true
in_width p l = lt-ltb p 64 l

-- the set of one position
pub only : (p : ℕ) → p < 64 → plus width none p ≡ (λ k. eqb k p)
only p l = fun_ext (λ k. ap (λ x. x && eqb k p || false) (in_width p l) ∙ or-false (eqb k p))
