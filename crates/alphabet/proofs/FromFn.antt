-- What `array::from_fn` made, element by element, of a closure that its calls leave as it was.
use Rattle.std.proofs.Common.{◌≡◌, ℕ, zero, suc, ◌+◌, ◌<◌, ◌≤◌, List, get_or, sym, subst, ⊎_elim, arith}
use Rattle.std.specs.Fn.{Called, Mut}
use Rattle.std.proofs.lemmas.Bool.{cases_eq}
use Rattle.std.specs.Array.{IsFromFnResultFrom, IsFromFnResult}

module _ {F B : Type 0} (g : Mut F (ℕ × Unit {0}) B) (P : ℕ → B → Type 0) (f : F) (step : (i : ℕ) (y : B) (q : F) → Called g f (i, tt) y q → P i y × (q ≡ f)) where
  each_from : (ys : List B) (i n : ℕ) → IsFromFnResultFrom g f ys i n → (k : ℕ) (d : B) → i ≤ k → k < i + n → P k (get_or ys k d)
  each_from ys i zero h k d l u = absurd (omega arith)
  each_from ys i (suc n) h k d l u =
      let w = step i h.1 h.0 h.3 in
      ⊎_elim (λ (e : k ≡ i). subst (λ j. P j (get_or ys j d)) (sym e) (subst (P i) (sym (h.2.1 d)) w.0))
      (λ (e : k ≡ i → ⊥). each_from ys (i + 1) n (subst (λ q. IsFromFnResultFrom g q ys (i + 1) n) w.1 h.4) k d (omega arith) (omega arith))
      (cases_eq k i)

  pub each_made : (ys : List B) (n : ℕ) → IsFromFnResult g f ys n → (k : ℕ) (d : B) → k < n → P k (get_or ys k d)
  each_made ys n h k d u = each_from ys 0 n h.each k d (omega arith) (omega arith)
