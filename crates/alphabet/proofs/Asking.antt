-- The test with a number, and the numbers that no test has.
use Rattle.std.proofs.Common.{◌≡◌, ℕ, zero, suc, ◌-◌, ◌<◌, ◌≤◌, Bool, false, eqb, ◌⊎◌, List, [], ◌∷◌, length, get_or, sym, refl, ap, ◌∙◌, ⊎_elim, arith}
use Rattle.std.proofs.lemmas.Bool.{cases_eq, eq-eqb, ne_eqb, cond-true, cond-false}
use Rattle.alphabet.specs.Asked.{asked}

pub asked_first : {A : Type 0} (f : A → Bool) (t : A) (ts : List A) (k : ℕ) → k ≡ 0 → asked f (t ∷ ts) (suc k) ≡ f t
asked_first f t ts k e = cond-true (eqb k 0) (f t) (asked f ts k) (eq-eqb k 0 e)

pub asked_later : {A : Type 0} (f : A → Bool) (t : A) (ts : List A) (k : ℕ) → (k ≡ 0 → ⊥) → asked f (t ∷ ts) (suc k) ≡ asked f ts k
asked_later f t ts k d = cond-false (eqb k 0) (f t) (asked f ts k) (ne_eqb k 0 d)

pub asked_zero : {A : Type 0} (f : A → Bool) (ts : List A) → asked f ts 0 ≡ false
asked_zero f [] = refl
asked_zero f (t ∷ ts) = refl

pub asked_past : {A : Type 0} (f : A → Bool) (ts : List A) (k : ℕ) → length ts < k → asked f ts k ≡ false
asked_past f [] k l = refl
asked_past f (t ∷ ts) zero l = refl
asked_past f (t ∷ ts) (suc k) l = asked_later f t ts k (λ e. omega arith) ∙ asked_past f ts k (omega arith)

pub asked_none : {A : Type 0} (f : A → Bool) (ts : List A) (k : ℕ) → (k ≡ 0) ⊎ (length ts < k) → asked f ts k ≡ false
asked_none f ts k = ⊎_elim (λ (e : k ≡ 0). ap (asked f ts) e ∙ asked_zero f ts) (λ l. asked_past f ts k l)

pub asked_at : {A : Type 0} (f : A → Bool) (ts : List A) (k : ℕ) (d : A) → 0 < k → k ≤ length ts → asked f ts k ≡ f (get_or ts (k - 1) d)
asked_at f [] k d l u = absurd (omega arith)
asked_at f (t ∷ ts) zero d l u = absurd (omega arith)
asked_at f (t ∷ ts) (suc k) d l u =
    ⊎_elim (λ (e : k ≡ 0). let z : suc k - 1 ≡ 0 = omega arith in asked_first f t ts k e ∙ sym (ap (λ i. f (get_or (t ∷ ts) i d)) z))
    (λ (e : k ≡ 0 → ⊥). let z : suc k - 1 ≡ suc (k - 1) = omega arith in asked_later f t ts k e ∙ asked_at f ts k d (omega arith) (omega arith) ∙ sym (ap (λ i. f (get_or (t ∷ ts) i d)) z))
    (cases_eq k 0)
