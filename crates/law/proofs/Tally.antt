-- How many of the first n are in a set.
use Rattle.std.proofs.Common.{◌≡◌, ℕ, zero, suc, ◌+◌, ◌<◌, ◌≤◌, Bool, true, false, cond, eqb, sym, refl, ap, ◌∙◌, ⊎_elim, arith}
use Rattle.std.proofs.lemmas.Bool.{cases_eq, cases_Bool, both_ways, eq-eqb, ne_eqb}
use Rattle.sets.specs.Members.{tally}

abbrev pub one : Bool → ℕ
one b = cond b 1 0

one_le : (b : Bool) → one b ≤ 1
one_le true = omega arith
one_le false = omega arith

pub tally_zero : (f : ℕ → Bool) (n : ℕ) → ((k : ℕ) → f k ≡ true → ⊥) → tally f n ≡ 0
unfolding tally
tally_zero f zero h = refl
tally_zero f (suc n) h =
    ⊎_elim
    (λ (t : f n ≡ true). absurd (h n t))
    (λ (t : f n ≡ false). let z : one (f n) ≡ 0 = ap one t in omega (arith, tally_zero f n h))
    (cases_Bool (f n))

pub tally_same : (f g : ℕ → Bool) (n : ℕ) → ((k : ℕ) → k < n → f k ≡ g k) → tally f n ≡ tally g n
unfolding tally
tally_same f g zero h = refl
tally_same f g (suc n) h =
    let a : one (f n) ≡ one (g n) = ap one (h n (omega arith)) in
    let b : tally f n ≡ tally g n = tally_same f g n (λ k l. h k (omega arith)) in
    omega arith

pub tally_put : (f g : ℕ → Bool) (n k : ℕ) → k < n → f k ≡ false → g k ≡ true → ((j : ℕ) → (j ≡ k → ⊥) → f j ≡ g j) → tally g n ≡ tally f n + 1
unfolding tally
tally_put f g zero k h e e' same = absurd (omega arith)
tally_put f g (suc n) k h e e' same =
    ⊎_elim
    (λ (s : k ≡ n).
    let z : one (f n) ≡ 0 = ap one (ap f (sym s) ∙ e) in
    let o : one (g n) ≡ 1 = ap one (ap g (sym s) ∙ e') in
    let r : tally f n ≡ tally g n = tally_same f g n (λ j l. same j (λ (q : j ≡ k). omega arith)) in
    omega arith)
    (λ (d : k ≡ n → ⊥).
    let l : k < n = omega arith in
    let a : one (f n) ≡ one (g n) = ap one (same n (λ (q : n ≡ k). d (sym q))) in
    omega (arith, tally_put f g n k l e e' same))
    (cases_eq k n)

one_mono : (a b : Bool) → (a ≡ true → b ≡ true) → one a ≤ one b
one_mono true true h = omega arith
one_mono true false h = absurd (both_ways false refl (h refl))
one_mono false true h = omega arith
one_mono false false h = omega arith

pub tally_mono : (f g : ℕ → Bool) (n : ℕ) → ((k : ℕ) → f k ≡ true → g k ≡ true) → tally f n ≤ tally g n
unfolding tally
tally_mono f g zero h = omega arith
tally_mono f g (suc n) h = omega (arith, one_mono (f n) (g n) (h n), tally_mono f g n h)

-- fewer, where one is missing
pub tally_fewer : (f g : ℕ → Bool) (n k : ℕ) → k < n → f k ≡ false → g k ≡ true → ((j : ℕ) → f j ≡ true → g j ≡ true) → tally f n < tally g n
unfolding tally
tally_fewer f g zero k h e e' sub = absurd (omega arith)
tally_fewer f g (suc n) k h e e' sub =
    ⊎_elim
    (λ (s : k ≡ n).
    let z : one (f n) ≡ 0 = ap one (ap f (sym s) ∙ e) in
    let o : one (g n) ≡ 1 = ap one (ap g (sym s) ∙ e') in
    omega (arith, tally_mono f g n sub))
    (λ (d : k ≡ n → ⊥).
    let l : k < n = omega arith in
    omega (arith, one_mono (f n) (g n) (sub n), tally_fewer f g n k l e e' sub))
    (cases_eq k n)

-- at most one
pub tally_single : (f : ℕ → Bool) (n p : ℕ) → ((k : ℕ) → f k ≡ true → k ≡ p) → tally f n ≤ 1
unfolding tally
tally_single f zero p h = omega arith
tally_single f (suc n) p h =
    ⊎_elim
    (λ (t : f n ≡ true).
    let z : tally f n ≤ 0 = below n (omega arith) (h n t) in
    omega (arith, one_le (f n)))
    (λ (t : f n ≡ false). let z : one (f n) ≡ 0 = ap one t in omega (arith, tally_single f n p h))
    (cases_Bool (f n))
  where
    below : (j : ℕ) → j ≤ n → n ≡ p → tally f j ≤ 0
    below zero l e = omega arith
    below (suc j) l e =
        ⊎_elim
        (λ (t : f j ≡ true). let q : j ≡ p = h j t in omega arith)
        (λ (t : f j ≡ false). let z : one (f j) ≡ 0 = ap one t in omega (arith, below j (omega arith) e))
        (cases_Bool (f j))

-- all below p are in the set
pub tally_lowest : (f : ℕ → Bool) (n p : ℕ) → p ≤ n → ((k : ℕ) → k < p → f k ≡ true) → p ≤ tally f n
unfolding tally
tally_lowest f zero p l h = omega arith
tally_lowest f (suc n) p l h =
    ⊎_elim
    (λ (e : p ≡ suc n).
    let o : one (f n) ≡ 1 = ap one (h n (omega arith)) in
    omega (arith, tally_lowest f n n (omega arith) (λ k q. h k (omega arith))))
    (λ (d : p ≡ suc n → ⊥). omega (arith, tally_lowest f n p (omega arith) h))
    (cases_eq p (suc n))

-- none at all
pub tally_none : (f : ℕ → Bool) (n : ℕ) → tally f n ≡ 0 → (k : ℕ) → k < n → f k ≡ false
tally_none f n z k l =
    ⊎_elim
    (λ (t : f k ≡ true). absurd (omega (arith, tally_fewer (λ _. false) f n k l refl t (λ j e. absurd (both_ways false refl e)))))
    (λ (t : f k ≡ false). t)
    (cases_Bool (f k))

-- at most one: any two are the same
pub tally_one : (f : ℕ → Bool) (n p q : ℕ) → tally f n ≤ 1 → p < n → q < n → f p ≡ true → f q ≡ true → q ≡ p
tally_one f n p q few lp lq tp tq =
    ⊎_elim
    (λ (e : q ≡ p). e)
    (λ (d : q ≡ p → ⊥).
    let g : ℕ → Bool = λ k. cond (eqb k p) false (f k) in
    let gp : g p ≡ false = ap (λ b. cond b false (f p)) (eq-eqb p p refl) in
    let gq : g q ≡ true = ap (λ b. cond b false (f q)) (ne_eqb q p d) ∙ tq in
    let sub : (j : ℕ) → g j ≡ true → f j ≡ true = λ j e. under (eqb j p) (f j) e in
    absurd (omega (arith, tally_fewer g f n p lp gp tp sub, tally_fewer (λ _. false) g n q lq refl gq (λ j e. absurd (both_ways false refl e)))))
    (cases_eq q p)
  where
    under : (b x : Bool) → cond b false x ≡ true → x ≡ true
    under true x e = absurd (both_ways false refl e)
    under false x e = e
