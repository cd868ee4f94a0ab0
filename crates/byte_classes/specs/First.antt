-- The first number with a property, and how many have it.
use Rattle.std.specs.Prelude.{◌≡◌, ℕ, zero, suc, ◌+◌, ◌<◌, ◌≤◌, Bool, true, false, refl}
use Rattle.std.proofs.Common.{ap, ◌∙◌, ⊎_elim, arith, add-zero}
use Rattle.std.proofs.lemmas.Bool.{cases_Bool, cases_order, cases_lt, cases_eq, cond-true, cond-false, both_ways}
use Rattle.byte_classes.specs.Numbering.{first, how_many}

first_suc_yes : (f : ℕ → Bool) (n a : ℕ) → f a ≡ true → first f (suc n) a ≡ a
unfolding first
first_suc_yes f n a h = cond-true (f a) a (first f n (suc a)) h

first_suc_no : (f : ℕ → Bool) (n a : ℕ) → f a ≡ false → first f (suc n) a ≡ first f n (suc a)
unfolding first
first_suc_no f n a h = cond-false (f a) a (first f n (suc a)) h

-- what `first f n a` is like, in one go
pub record Found (f : ℕ → Bool) (n a r : ℕ) : Type 0 where
  pub low : a ≤ r
  pub high : r ≤ a + n
  pub none : (x : ℕ) → a ≤ x → x < r → f x ≡ false
  pub has : r < a + n → f r ≡ true

found_yes : (f : ℕ → Bool) (n a : ℕ) → f a ≡ true → Found f (suc n) a a
found_yes f n a h = record { low = omega arith; high = omega arith; none = λ x l u. absurd (omega arith); has = λ _. h }

none_on : (f : ℕ → Bool) (n a r x : ℕ) → f a ≡ false → Found f n (suc a) r → a ≤ x → x < r → f x ≡ false
none_on f n a r x h k l u = ⊎_elim (λ (e : x ≡ a). ap f e ∙ h) (λ (d : x ≡ a → ⊥). k.none x (omega arith) u) (cases_eq x a)

found_no : (f : ℕ → Bool) (n a r : ℕ) → f a ≡ false → Found f n (suc a) r → Found f (suc n) a r
found_no f n a r h k =
    record {
      low = omega (arith, k.low);
      high = omega (arith, k.high);
      none = λ x l u. none_on f n a r x h k l u;
      has = λ l. k.has (omega arith);
    }

found_at : (f : ℕ → Bool) (n a r s : ℕ) → s ≡ r → Found f n a r → Found f n a s
found_at f n a r s e k = rw e k

pub found : (f : ℕ → Bool) (n a : ℕ) → Found f n a (first f n a)
unfolding first
found f zero a = record { low = omega arith; high = omega arith; none = λ x l u. absurd (omega arith); has = λ l. absurd (omega arith) }
found f (suc n) a =
    ⊎_elim (λ (h : f a ≡ true). found_at f (suc n) a a (first f (suc n) a) (first_suc_yes f n a h) (found_yes f n a h))
    (λ (h : f a ≡ false). found_at f (suc n) a (first f n (suc a)) (first f (suc n) a) (first_suc_no f n a h) (found_no f n a (first f n (suc a)) h (found f n (suc a))))
    (cases_Bool (f a))

-- there is one such number
pub found_once : (f : ℕ → Bool) (n a r s : ℕ) → Found f n a r → Found f n a s → r ≡ s
found_once f n a r s h k =
    ⊎_elim (λ (e : r ≡ s). e)
    (⊎_elim (λ (l : r < s). absurd (both_ways (f r) (k.none r h.low l) (h.has (omega (arith, k.high)))))
    (λ (l : s < r). absurd (both_ways (f s) (h.none s k.low l) (k.has (omega (arith, h.high))))))
    (cases_order r s)

pub first_is : (f : ℕ → Bool) (n a r : ℕ) → Found f n a r → first f n a ≡ r
first_is f n a r h = found_once f n a (first f n a) r (found f n a) h

-- where some number has f, the first has it too
pub first_below : (f : ℕ → Bool) (n a b : ℕ) → a ≤ b → b < a + n → f b ≡ true → (first f n a ≤ b) × (f (first f n a) ≡ true)
first_below f n a b l u h =
    let k = found f n a in
    let s : first f n a ≤ b = ⊎_elim (λ (e : b < first f n a). absurd (both_ways (f b) (k.none b l e) h)) (λ (e : first f n a ≤ b). e) (cases_lt b (first f n a)) in
    (s, k.has (omega arith))

pub how_many_yes : (f : ℕ → Bool) (n : ℕ) → f n ≡ true → how_many f (suc n) ≡ how_many f n + 1
unfolding how_many
how_many_yes f n h = ap (λ k. how_many f n + k) (cond-true (f n) 1 0 h)

pub how_many_no : (f : ℕ → Bool) (n : ℕ) → f n ≡ false → how_many f (suc n) ≡ how_many f n
unfolding how_many
how_many_no f n h = ap (λ k. how_many f n + k) (cond-false (f n) 1 0 h) ∙ add-zero (how_many f n)

pub how_many_zero : (f : ℕ → Bool) → how_many f 0 ≡ 0
unfolding how_many
how_many_zero f = refl

one_more : (f : ℕ → Bool) (n : ℕ) → (how_many f n ≤ how_many f (suc n)) × (how_many f (suc n) ≤ how_many f n + 1)
one_more f n =
    ⊎_elim (λ (h : f n ≡ true). (omega (arith, how_many_yes f n h), omega (arith, how_many_yes f n h)))
    (λ (h : f n ≡ false). (omega (arith, how_many_no f n h), omega (arith, how_many_no f n h)))
    (cases_Bool (f n))

pub how_many_le : (f : ℕ → Bool) (n : ℕ) → how_many f n ≤ n
how_many_le f zero = omega (arith, how_many_zero f)
how_many_le f (suc n) = omega (arith, one_more f n, how_many_le f n)

pub how_many_mono : (f : ℕ → Bool) (m n : ℕ) → m ≤ n → how_many f m ≤ how_many f n
how_many_mono f m zero l = let e : m ≡ 0 = omega arith in rw e (omega arith)
how_many_mono f m (suc n) l =
    ⊎_elim (λ (e : m ≡ suc n). rw e (omega arith)) (λ (d : m ≡ suc n → ⊥). omega (arith, how_many_mono f m n (omega arith), one_more f n)) (cases_eq m (suc n))

pub how_many_less : (f : ℕ → Bool) (m n : ℕ) → m < n → f m ≡ true → how_many f m < how_many f n
how_many_less f m n l h = omega (arith, how_many_yes f m h, how_many_mono f (suc m) n (omega arith))

-- the number with f that has c of them before it
pub how_many_used : (f : ℕ → Bool) (n c : ℕ) → c < how_many f n → (b : ℕ) × (b < n) × (f b ≡ true) × (how_many f b ≡ c)
how_many_used f zero c l = absurd (omega (arith, how_many_zero f))
how_many_used f (suc n) c l =
    ⊎_elim (λ (u : c < how_many f n). let w = how_many_used f n c u in (w.0, omega (arith, w.1), w.2, w.3))
    (λ (u : how_many f n ≤ c). ⊎_elim (λ (h : f n ≡ true). (n, omega arith, h, omega (arith, how_many_yes f n h))) (λ (h : f n ≡ false). absurd (omega (arith, how_many_no f n h))) (cases_Bool (f n)))
    (cases_lt c (how_many f n))
