-- One binary digit of a number made by the operators on bits, at any width w.
use Rattle.std.proofs.Common.{◌≡◌, ℕ, suc, ◌+◌, ◌-◌, ◌/◌, ◌%◌, ◌^◌, ◌<◌, ◌≤◌, Bool, not, ◌&&◌, ◌||◌, eqb, ◌⊎◌, sym, refl, ap, ◌∙◌, subst, inl, inr, ⊎_elim, mod-eq_of_lt, pow-suc, arith, pow_pos, pow-add}
use native.Mathlib.Nat.{mul-mod_left, div_self, div-eq_of_lt}
use lib.Bits.{bit_and, bit_or, bit_xor, and_shr, or_shr, xor_shr, and_mod, or_mod, xor_mod, and_mask, xor_add_and}
use lib.Pow.{pow-lt, ones_split, ones_lt, high, shl-shr}
use Rattle.std.proofs.lemmas.Bool.{cases_eq, cases_order, cases_lt, eq-eqb, ne_eqb}
use Rattle.sets.specs.Masks.{bit}

pub bit_two : (m k : ℕ) → (bit m k ≡ 0) ⊎ (bit m k ≡ 1)
bit_two m k = ⊎_elim (λ (h : bit m k < 1). inl (omega arith)) (λ (h : 1 ≤ bit m k). inr (omega arith)) (cases_lt (bit m k) 1)

bit_and_lem : (a b k : ℕ) → bit (bit_and a b) k ≡ bit_and (bit a k) (bit b k)
bit_and_lem a b k = ap (λ x. x % 2) (and_shr a b k) ∙ and_mod (a / 2 ^ k) (b / 2 ^ k) 1

bit_or_lem : (a b k : ℕ) → bit (bit_or a b) k ≡ bit_or (bit a k) (bit b k)
bit_or_lem a b k = ap (λ x. x % 2) (or_shr a b k) ∙ or_mod (a / 2 ^ k) (b / 2 ^ k) 1

bit_xor_lem : (a b k : ℕ) → bit (bit_xor a b) k ≡ bit_xor (bit a k) (bit b k)
bit_xor_lem a b k = ap (λ x. x % 2) (xor_shr a b k) ∙ xor_mod (a / 2 ^ k) (b / 2 ^ k) 1

pub low_bit : (x : ℕ) → bit_and x 1 ≡ x % 2
low_bit x = and_mask x 1

-- a single bit
bit_pow : (p : ℕ) → bit (2 ^ p) p ≡ 1
bit_pow p = ap (λ x. x % 2) (div_self (pow_pos p))

bit_pow_above : (j k : ℕ) → bit (2 ^ (suc j + k)) k ≡ 0
bit_pow_above j k =
    ap (λ x. x / 2 ^ k % 2) (pow-add 2 (suc j) k)
    ∙ ap (λ x. x % 2) (shl-shr (2 ^ suc j) k)
    ∙ ap (λ x. x % 2) (pow-suc 2 j)
    ∙ mul-mod_left (2 ^ j) 2

bit_pow_other : (p k : ℕ) → (k ≡ p → ⊥) → bit (2 ^ p) k ≡ 0
bit_pow_other p k ne =
    ⊎_elim
    (λ (e : k ≡ p). absurd (ne e))
    (⊎_elim
    (λ (h : k < p).
    let e : suc (p - suc k) + k ≡ p = omega arith in
    subst (λ (x : ℕ). bit (2 ^ x) k ≡ 0) e (bit_pow_above (p - suc k) k))
    (λ (h : p < k). ap (λ x. x % 2) (div-eq_of_lt (pow-lt h))))
    (cases_order k p)

-- every bit below the width
bit_ones : (j k : ℕ) → bit (2 ^ (suc j + k) - 1) k ≡ 1
bit_ones j k =
    ap (λ x. x / 2 ^ k % 2) (ones_split (suc j) k)
    ∙ ap (λ x. x % 2) (high (2 ^ suc j - 1) k (ones_lt k))
    ∙ (rw (pow-suc 2 j) (let h : 0 < 2 ^ j = pow_pos j in omega arith))

pub bit_full : (w k : ℕ) → k < w → bit (2 ^ w - 1) k ≡ 1
bit_full w k hk =
    let e : suc (w - suc k) + k ≡ w = omega arith in
    subst (λ (x : ℕ). bit (2 ^ x - 1) k ≡ 1) e (bit_ones (w - suc k) k)

not_xor : (w b : ℕ) → b < 2 ^ w → (2 ^ w - 1) - b ≡ bit_xor b (2 ^ w - 1)
not_xor w b h =
    let a : bit_and b (2 ^ w - 1) ≡ b = and_mask b w ∙ mod-eq_of_lt h in
    let x = xor_add_and b (2 ^ w - 1) in
    omega arith

one_xor : (x : ℕ) → (x ≡ 0) ⊎ (x ≡ 1) → bit_xor x 1 ≡ 1 - x
one_xor x = ⊎_elim (λ (e : x ≡ 0). rw e) (λ (e : x ≡ 1). rw e)

pub bit_not : (w b k : ℕ) → b < 2 ^ w → k < w → bit ((2 ^ w - 1) - b) k ≡ 1 - bit b k
bit_not w b k hb hk =
    ap (λ x. bit x k) (not_xor w b hb)
    ∙ bit_xor_lem b (2 ^ w - 1) k
    ∙ ap (λ x. bit_xor (bit b k) x) (bit_full w k hk)
    ∙ one_xor (bit b k) (bit_two b k)

-- the same as tests
abbrev pub test : ℕ → ℕ → Bool
test m k = eqb (bit m k) 1

both : (P : ℕ → Type 0) (x : ℕ) → (x ≡ 0) ⊎ (x ≡ 1) → P 0 → P 1 → P x
both P x w a b = ⊎_elim (λ (e : x ≡ 0). subst P (sym e) a) (λ (e : x ≡ 1). subst P (sym e) b) w

pub test_or : (a b k : ℕ) → test (bit_or a b) k ≡ (test a k || test b k)
test_or a b k =
    ap (λ x. eqb x 1) (bit_or_lem a b k)
    ∙ both (λ x. eqb (bit_or x (bit b k)) 1 ≡ (eqb x 1 || eqb (bit b k) 1)) (bit a k) (bit_two a k)
    (both (λ y. eqb (bit_or 0 y) 1 ≡ (eqb 0 1 || eqb y 1)) (bit b k) (bit_two b k) refl refl)
    (both (λ y. eqb (bit_or 1 y) 1 ≡ (eqb 1 1 || eqb y 1)) (bit b k) (bit_two b k) refl refl)

pub test_and : (a b k : ℕ) → test (bit_and a b) k ≡ (test a k && test b k)
test_and a b k =
    ap (λ x. eqb x 1) (bit_and_lem a b k)
    ∙ both (λ x. eqb (bit_and x (bit b k)) 1 ≡ (eqb x 1 && eqb (bit b k) 1)) (bit a k) (bit_two a k)
    (both (λ y. eqb (bit_and 0 y) 1 ≡ (eqb 0 1 && eqb y 1)) (bit b k) (bit_two b k) refl refl)
    (both (λ y. eqb (bit_and 1 y) 1 ≡ (eqb 1 1 && eqb y 1)) (bit b k) (bit_two b k) refl refl)

pub test_not : (w b k : ℕ) → b < 2 ^ w → k < w → test ((2 ^ w - 1) - b) k ≡ not (test b k)
test_not w b k hb hk =
    ap (λ x. eqb x 1) (bit_not w b k hb hk)
    ∙ both (λ y. eqb (1 - y) 1 ≡ not (eqb y 1)) (bit b k) (bit_two b k) refl refl

pub test_less : (w a b k : ℕ) → b < 2 ^ w → k < w → test (bit_and a ((2 ^ w - 1) - b)) k ≡ (test a k && not (test b k))
test_less w a b k hb hk = test_and a ((2 ^ w - 1) - b) k ∙ ap (λ x. test a k && x) (test_not w b k hb hk)

pub test_pow : (p k : ℕ) → test (2 ^ p) k ≡ eqb k p
test_pow p k =
    ⊎_elim
    (λ (e : k ≡ p). subst (λ (x : ℕ). test (2 ^ p) x ≡ eqb x p) (sym e) (ap (λ x. eqb x 1) (bit_pow p) ∙ sym (eq-eqb p p refl)))
    (λ (d : k ≡ p → ⊥). ap (λ x. eqb x 1) (bit_pow_other p k d) ∙ sym (ne_eqb k p d))
    (cases_eq k p)
