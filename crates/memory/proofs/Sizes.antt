-- The size of a map: what one step more or less does to it.
use Rattle.std.proofs.Common.{◌≡◌, ℕ, zero, suc, ◌+◌, ◌*◌, ◌/◌, ◌%◌, ◌<◌, ◌≤◌, Bool, true, false, cond, eqb, ltb, Some, None, Option, is_none, sym, refl, ap, ◌∙◌, ⊎_elim, add-zero, arith}
use Rattle.std.proofs.lemmas.Bool.{cases_eq, cases_Bool, eq-eqb, ne_eqb, both_ways, and_parts, ltb-true, lt-ltb}
use Rattle.std.proofs.Math.Bool.{and-false}
use Rattle.std.proofs.lemmas.Nat.{div-mul-add, mod-mul-add, mul-add-lt, div-add-mod'}
use Rattle.memory.specs.Steps.{Map, noted, size, tally, one, nothing, notable, after}

one_le : (o : Option ℕ) → one o ≤ 1
one_le None = omega arith
one_le (Some _) = omega arith

pub tally_le : (f : ℕ → Option ℕ) (n : ℕ) → tally f n ≤ n
unfolding tally
tally_le f zero = omega arith
tally_le f (suc n) = omega (arith, tally_le f n, one_le (f n))

pub tally_lt : (f : ℕ → Option ℕ) (n k : ℕ) → k < n → f k ≡ None → tally f n < n
unfolding tally
tally_lt f zero k h e = omega arith
tally_lt f (suc n) k h e =
    ⊎_elim
    (λ (s : k ≡ n). let z : one (f n) ≡ 0 = ap one (ap f (sym s) ∙ e) in omega (arith, tally_le f n))
    (λ (d : k ≡ n → ⊥). let l : k < n = omega arith in omega (arith, tally_lt f n k l e, one_le (f n)))
    (cases_eq k n)

pub tally_same : (f g : ℕ → Option ℕ) (n : ℕ) → ((k : ℕ) → k < n → f k ≡ g k) → tally f n ≡ tally g n
unfolding tally
tally_same f g zero h = refl
tally_same f g (suc n) h =
    let a : one (f n) ≡ one (g n) = ap one (h n (omega arith)) in
    let b : tally f n ≡ tally g n = tally_same f g n (λ k l. h k (omega arith)) in
    omega arith

pub tally_put : (f g : ℕ → Option ℕ) (n k t : ℕ) → k < n → f k ≡ None → g k ≡ Some t → ((j : ℕ) → (j ≡ k → ⊥) → f j ≡ g j) → tally g n ≡ tally f n + 1
unfolding tally
tally_put f g zero k t h e e' same = absurd (omega arith)
tally_put f g (suc n) k t h e e' same =
    ⊎_elim
    (λ (s : k ≡ n).
    let z : one (f n) ≡ 0 = ap one (ap f (sym s) ∙ e) in
    let o : one (g n) ≡ 1 = ap one (ap g (sym s) ∙ e') in
    let r : tally f n ≡ tally g n = tally_same f g n (λ j l. same j (λ (q : j ≡ k). omega arith)) in
    omega arith)
    (λ (d : k ≡ n → ⊥).
    let l : k < n = omega arith in
    let a : one (f n) ≡ one (g n) = ap one (same n (λ (q : n ≡ k). d (sym q))) in
    omega (arith, tally_put f g n k t l e e' same))
    (cases_eq k n)

-- Two maps that differ at one step, which one of them lacks.
pub size_put : (n : ℕ) (f g : Map) (p c t : ℕ) → p < n → c < 256 → f p c ≡ None → g p c ≡ Some t → ((q d : ℕ) → (q ≡ p → d ≡ c → ⊥) → f q d ≡ g q d) → size n g ≡ size n f + 1
unfolding size
size_put n f g p c t hp hc e e' same =
    let dv : (p * 256 + c) / 256 ≡ p = div-mul-add p 256 c hc in
    let md : (p * 256 + c) % 256 ≡ c = mod-mul-add p 256 c hc in
    tally_put (λ i. f (i / 256) (i % 256)) (λ i. g (i / 256) (i % 256)) (n * 256) (p * 256 + c) t
    (omega (arith, mul-add-lt p 256 c n hp hc))
    (rw (dv, md) e)
    (rw (dv, md) e')
    (λ j (ne : j ≡ p * 256 + c → ⊥).
    same (j / 256) (j % 256) (λ (a : j / 256 ≡ p) (b : j % 256 ≡ c). ne (omega (arith, div-add-mod' j 256))))

pub noted_other : (f : Map) (p c t q d : ℕ) → (q ≡ p → d ≡ c → ⊥) → f q d ≡ noted f p c t q d
noted_other f p c t q d ne =
    ⊎_elim
    (λ (a : q ≡ p). rw (ne_eqb d c (λ (b : d ≡ c). ne a b), and-false (eqb q p)))
    (λ (a : q ≡ p → ⊥). rw (ne_eqb q p a))
    (cases_eq q p)

pub size_noted : (n : ℕ) (f : Map) (p c t : ℕ) → p < n → c < 256 → f p c ≡ None → size n (noted f p c t) ≡ size n f + 1
size_noted n f p c t hp hc e =
    size_put n f (noted f p c t) p c t hp hc e
    (rw (eq-eqb p p refl, eq-eqb c c refl))
    (λ q d (ne : q ≡ p → d ≡ c → ⊥). noted_other f p c t q d ne)

-- A map that lacks a step is not full.
pub size_lt : (n : ℕ) (f : Map) (p c : ℕ) → p < n → c < 256 → f p c ≡ None → size n f < 256 * n
unfolding size
size_lt n f p c hp hc e =
    let dv : (p * 256 + c) / 256 ≡ p = div-mul-add p 256 c hc in
    let md : (p * 256 + c) % 256 ≡ c = mod-mul-add p 256 c hc in
    omega (arith, tally_lt (λ i. f (i / 256) (i % 256)) (n * 256) (p * 256 + c) (omega (arith, mul-add-lt p 256 c n hp hc)) (rw (dv, md) e))

pub size_le : (n : ℕ) (f : Map) → size n f ≤ 256 * n
unfolding size
size_le n f = omega (arith, tally_le (λ i. f (i / 256) (i % 256)) (n * 256))

tally_nothing : (n : ℕ) → tally (λ _. None) n ≡ 0
unfolding tally
tally_nothing zero = refl
tally_nothing (suc n) = let r : tally (λ _. None) n ≡ 0 = tally_nothing n in omega arith

pub size_nothing : (n : ℕ) → size n nothing ≡ 0
unfolding size
size_nothing n = tally_nothing (n * 256)

pub none_is : (o : Option ℕ) → is_none o ≡ true → o ≡ None
none_is None e = refl
none_is (Some t) e = absurd (both_ways false refl e)

-- the same as `notable`, each condition by itself
pub record Notable (n m : ℕ) (f : Map) (p c t : ℕ) : Type 0 where
  pub place : p < n
  pub target : t < n
  pub class : c < 256
  pub lacks : f p c ≡ None
  pub room : size n f < m

-- a note's answer says each of its conditions, and they say it
pub notable_parts : (n m : ℕ) (f : Map) (p c t : ℕ) → notable n m f p c t ≡ true → Notable n m f p c t
notable_parts n m f p c t e =
    let a = and_parts (ltb p n) _ e in
    let b = and_parts (ltb t n) _ a.1 in
    let d = and_parts (ltb c 256) _ b.1 in
    let g = and_parts (is_none (f p c)) _ d.1 in
    record { place = ltb-true p n a.0; target = ltb-true t n b.0; class = ltb-true c 256 d.0; lacks = none_is (f p c) g.0; room = ltb-true (size n f) m g.1 }

pub notable_from : (n m : ℕ) (f : Map) (p c t : ℕ) → Notable n m f p c t → notable n m f p c t ≡ true
notable_from n m f p c t k = rw (lt-ltb p n k.place, lt-ltb t n k.target, lt-ltb c 256 k.class, k.lacks, lt-ltb (size n f) m k.room)

pub not_notable : (n m : ℕ) (f : Map) (p c t : ℕ) → (Notable n m f p c t → ⊥) → notable n m f p c t ≡ false
not_notable n m f p c t not =
    ⊎_elim
    (λ (e : notable n m f p c t ≡ true). absurd (not (notable_parts n m f p c t e)))
    (λ (e : notable n m f p c t ≡ false). e)
    (cases_Bool (notable n m f p c t))

-- a note that adds its step adds one to the size, and another leaves it
pub size_after : (n m : ℕ) (f : Map) (p c t : ℕ) (r : Bool) → r ≡ notable n m f p c t → size n (after r f p c t) ≡ size n f + cond r 1 0
size_after n m f p c t true e = let q = notable_parts n m f p c t (sym e) in size_noted n f p c t q.place q.class q.lacks
size_after n m f p c t false e = sym (add-zero (size n f))
