-- The set of the tests with f, gathered one by one.
use Rattle.std.proofs.Common.{◌≡◌, ℕ, ◌+◌, ◌-◌, ◌<◌, ◌≤◌, Bool, true, false, ◌&&◌, ◌||◌, eqb, ltb, List, length, get_or, sym, refl, ap, ◌∙◌, ⊎_elim, arith}
use mathlib.Core.Path.{fun_ext}
use Rattle.std.proofs.lemmas.Bool.{cases_order, cases_lt, lt-ltb, le-ltb, eq-eqb, ne_eqb, and_right}
use Rattle.sets.specs.Members.{Members, none, plus, shared, below}
use Rattle.sets.specs.Positions.{width}
use Rattle.alphabet.specs.Asked.{asked}
use Rattle.alphabet.proofs.Asking.{asked_zero, asked_past, asked_at}

-- those below 64 are all that a set can hold
pub all_below : (f : Members) (n : ℕ) → n ≡ 64 → shared (below n) f ≡ shared (below width) f
all_below f n e = ap (λ m. shared (below m) f) e

pub none_below : (f : Members) → none ≡ shared (below 0) f
none_below f = fun_ext (λ k. sym (ap (λ x. x && f k) (le-ltb k 0 (omega arith))))

in_width : (n : ℕ) → n < 64 → ltb n width ≡ true
in_width n l = lt-ltb n 64 l

one_more : (f : Members) (n : ℕ) → n < 64 → f n ≡ true → plus width (shared (below n) f) n ≡ shared (below (n + 1)) f
one_more f n l h = fun_ext (λ k.
    ⊎_elim
    (λ (e : k ≡ n).
    ap (λ x. (x && eqb k n) || (ltb k n && f k)) (in_width n l) ∙ ap (λ x. x || (ltb k n && f k)) (eq-eqb k n e) ∙
    sym (ap (λ x. x && f k) (lt-ltb k (n + 1) (omega arith)) ∙ ap f e ∙ h))
    (⊎_elim
    (λ (u : k < n).
    ap (λ x. (ltb n width && x) || (ltb k n && f k)) (ne_eqb k n (λ e. omega arith)) ∙ ap (λ x. x || (ltb k n && f k)) (and_none (ltb n width)) ∙ ap (λ x. x && f k) (lt-ltb k n u) ∙
    sym (ap (λ x. x && f k) (lt-ltb k (n + 1) (omega arith))))
    (λ (u : n < k).
    ap (λ x. (ltb n width && x) || (ltb k n && f k)) (ne_eqb k n (λ e. omega arith)) ∙ ap (λ x. x || (ltb k n && f k)) (and_none (ltb n width)) ∙
    ap (λ x. x && f k) (le-ltb k n (omega arith) ∙ sym (le-ltb k (n + 1) (omega arith)))))
    (cases_order k n))
  where
    and_none : (b : Bool) → (b && false) ≡ false
    and_none true = refl
    and_none false = refl

no_more : (f : Members) (n : ℕ) → f n ≡ false → shared (below n) f ≡ shared (below (n + 1)) f
no_more f n h = fun_ext (λ k.
    ⊎_elim (λ (e : k ≡ n). ap (λ x. x && f k) (le-ltb k n (omega arith)) ∙ sym (ap (λ x. x && f k) (lt-ltb k (n + 1) (omega arith)) ∙ ap f e ∙ h))
    (⊎_elim (λ (u : k < n). ap (λ x. x && f k) (lt-ltb k n u ∙ sym (lt-ltb k (n + 1) (omega arith)))) (λ (u : n < k). ap (λ x. x && f k) (le-ltb k n (omega arith) ∙ sym (le-ltb k (n + 1) (omega arith)))))
    (cases_order k n))

pub with_one : (f : Members) (n : ℕ) (s r : Members) → n < 64 → f n ≡ true → s ≡ shared (below n) f → r ≡ plus width s n → r ≡ shared (below (n + 1)) f
with_one f n s r l h e g = g ∙ ap (λ x. plus width x n) e ∙ one_more f n l h

pub without_one : (f : Members) (n : ℕ) (s : Members) → f n ≡ false → s ≡ shared (below n) f → s ≡ shared (below (n + 1)) f
without_one f n s h e = e ∙ no_more f n h

-- the same, test by test of a row
pub gather_none : {A : Type 0} (f : A → Bool) (ts : List A) → none ≡ shared (below 1) (asked f ts)
gather_none f ts = none_below (asked f ts) ∙ no_more (asked f ts) 0 (asked_zero f ts)

numbered : {A : Type 0} (f : A → Bool) (ts : List A) (i : ℕ) (d : A) → i < length ts → asked f ts (i + 1) ≡ f (get_or ts i d)
numbered f ts i d l = let e : i + 1 - 1 ≡ i = omega arith in asked_at f ts (i + 1) d (omega arith) (omega arith) ∙ ap (λ j. f (get_or ts j d)) e

pub gather_yes : {A : Type 0} (f : A → Bool) (ts : List A) (i : ℕ) (d : A) (s r : Members) → i < length ts → length ts ≤ 63 → f (get_or ts i d) ≡ true → s ≡ shared (below (i + 1)) (asked f ts) → r ≡ plus width s (i + 1) → r ≡ shared (below (i + 1 + 1)) (asked f ts)
gather_yes f ts i d s r l few h e g = with_one (asked f ts) (i + 1) s r (omega arith) (numbered f ts i d l ∙ h) e g

pub gather_no : {A : Type 0} (f : A → Bool) (ts : List A) (i : ℕ) (d : A) (s : Members) → i < length ts → f (get_or ts i d) ≡ false → s ≡ shared (below (i + 1)) (asked f ts) → s ≡ shared (below (i + 1 + 1)) (asked f ts)
gather_no f ts i d s l h e = without_one (asked f ts) (i + 1) s (numbered f ts i d l ∙ h) e

past : {A : Type 0} (f : A → Bool) (ts : List A) (i k : ℕ) → i ≡ length ts → i ≤ 63 → (ltb k (i + 1) && asked f ts k) ≡ (ltb k 64 && asked f ts k)
past f ts i k e few =
    ⊎_elim (λ (l : k < i + 1). ap (λ x. x && asked f ts k) (lt-ltb k (i + 1) l ∙ sym (lt-ltb k 64 (omega arith))))
    (λ (l : i + 1 ≤ k). and_right (ltb k (i + 1)) (asked f ts k) (asked_past f ts k (omega arith)) ∙ sym (and_right (ltb k 64) (asked f ts k) (asked_past f ts k (omega arith))))
    (cases_lt k (i + 1))

pub gather_all : {A : Type 0} (f : A → Bool) (ts : List A) (i : ℕ) → i ≡ length ts → i ≤ 63 → shared (below (i + 1)) (asked f ts) ≡ shared (below width) (asked f ts)
gather_all f ts i e few = fun_ext (λ k. past f ts i k e few)

-- a number that the set cannot hold is none of a test
pub held : (f : Members) (n k : ℕ) → n ≤ 63 → ((j : ℕ) → n < j → f j ≡ false) → shared (below width) f k ≡ f k
held f n k few h =
    ⊎_elim (λ (l : k < 64). ap (λ x. x && f k) (lt-ltb k 64 l)) (λ (l : 64 ≤ k). and_right (ltb k 64) (f k) (h k (omega arith)) ∙ sym (h k (omega arith))) (cases_lt k 64)

-- what is answered to a number is what is answered to the number that it is
pub asked_by : (s : Members) (b : Bool) (i k : ℕ) → b ≡ s i → i ≡ k → b ≡ s k
asked_by s b i k h e = h ∙ ap s e

-- what a known class answers, and one that is not there
pub passing_known : (f g s : Members) → ((k : ℕ) → f k ≡ g k) → ((k : ℕ) → s k ≡ shared (below width) f k) → s ≡ shared (below width) g
passing_known f g s e h = fun_ext (λ k. h k ∙ ap (λ x. ltb k width && x) (e k))

pub passing_none : (g : Members) → ((k : ℕ) → g k ≡ false) → none ≡ shared (below width) g
passing_none g h = fun_ext (λ k. sym (and_right (ltb k width) (g k) (h k)))
