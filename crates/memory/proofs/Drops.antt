-- What dropping places does to one step of a map.
use Rattle.std.proofs.Common.{◌≡◌, ℕ, Bool, true, false, cond, ◌||◌, Some, None, Option, refl, ap, ◌∙◌}
use Rattle.std.proofs.lemmas.Bool.{both_ways, or_parts}
use Rattle.sets.specs.Members.{Members}
use Rattle.memory.specs.Steps.{Map, without, unless}

-- where there is no step, there is none afterwards
pub without_lacks : (f : Map) (m : Members) (p c : ℕ) → f p c ≡ None → without f m p c ≡ None
without_lacks f m p c e = ap (λ x. cond (m p) None (unless m x)) e ∙ same (m p)
  where
    same : (b : Bool) → ◌≡◌ {A = Option ℕ} (cond b None None) None
    same true = refl
    same false = refl

-- a step from or to the places goes
pub without_gone : (f : Map) (m : Members) (p c t : ℕ) → f p c ≡ Some t → (m p || m t) ≡ true → without f m p c ≡ None
without_gone f m p c t e h = ap (λ x. cond (m p) None (unless m x)) e ∙ gone (m p) (m t) h
  where
    gone : (x y : Bool) → (x || y) ≡ true → ◌≡◌ {A = Option ℕ} (cond x None (cond y None (Some t))) None
    gone true y h = refl
    gone false true h = refl
    gone false false h = absurd (both_ways false refl h)

-- another stays
pub without_stays : (f : Map) (m : Members) (p c t : ℕ) → f p c ≡ Some t → (m p || m t) ≡ false → without f m p c ≡ Some t
without_stays f m p c t e h = let k = or_parts (m p) (m t) h in ap (λ x. cond (m p) None (unless m x)) e ∙ (rw (k.0, k.1))
