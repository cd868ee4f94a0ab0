-- The tests of a number's bits, under or and xor.
use Rattle.std.proofs.Common.{◌≡◌, ℕ, ◌+◌, ◌%◌, ◌^◌, ◌<◌, ◌≤◌, max, Bool, not, ◌||◌, eqb, ◌⊎◌, sym, refl, ap, ◌∙◌, subst, inl, inr, ⊎_elim, arith}
use lib.Bits.{bit_or, bit_xor}
use Rattle.std.specs.Int.{bit_at}
use Rattle.std.proofs.lemmas.Bool.{cases_eq, cases_lt, eq-eqb, ne_eqb}
use Rattle.std.proofs.lemmas.Nat.Bits.{bit_at_or, bit_at_xor, bit_at-pow_same, bit_at-pow_other, bit_at_ones, bit_at-lt}

abbrev pub tst : ℕ → ℕ → Bool
tst m k = eqb (bit_at m k) 1

bit_two : (m k : ℕ) → (bit_at m k ≡ 0) ⊎ (bit_at m k ≡ 1)
bit_two m k = ⊎_elim (λ (h : bit_at m k < 1). inl (omega arith)) (λ (h : 1 ≤ bit_at m k). inr (omega (arith, bit_at-lt m k))) (cases_lt (bit_at m k) 1)

both : (P : ℕ → Type 0) (x : ℕ) → (x ≡ 0) ⊎ (x ≡ 1) → P 0 → P 1 → P x
both P x w a b = ⊎_elim (λ (e : x ≡ 0). subst P (sym e) a) (λ (e : x ≡ 1). subst P (sym e) b) w

-- a bit of an or is the or of the bits
pub tst_or : (a b k : ℕ) → tst (bit_or a b) k ≡ (tst a k || tst b k)
tst_or a b k =
    ap (λ x. eqb x 1) (bit_at_or a b k)
    ∙ both (λ x. eqb (max x (bit_at b k)) 1 ≡ (eqb x 1 || eqb (bit_at b k) 1)) (bit_at a k) (bit_two a k)
    (both (λ y. eqb (max 0 y) 1 ≡ (eqb 0 1 || eqb y 1)) (bit_at b k) (bit_two b k) refl refl)
    (both (λ y. eqb (max 1 y) 1 ≡ (eqb 1 1 || eqb y 1)) (bit_at b k) (bit_two b k) refl refl)

-- a power of two has one bit
pub tst_pow : (p k : ℕ) → tst (2 ^ p) k ≡ eqb k p
tst_pow p k =
    ⊎_elim
    (λ (e : k ≡ p). subst (λ (x : ℕ). tst (2 ^ p) x ≡ eqb x p) (sym e) (ap (λ x. eqb x 1) (bit_at-pow_same p) ∙ sym (eq-eqb p p refl)))
    (λ (d : k ≡ p → ⊥). ap (λ x. eqb x 1) (bit_at-pow_other p k d) ∙ sym (ne_eqb k p d))
    (cases_eq k p)

-- the xor with eight ones turns each of the eight bits
pub tst_flip : (a k : ℕ) → k < 8 → tst (bit_xor a 255) k ≡ not (tst a k)
tst_flip a k h =
    ap (λ x. eqb x 1) (bit_at_xor a 255 k ∙ ap (λ y. (bit_at a k + y) % 2) (bit_at_ones 8 k h))
    ∙ both (λ x. eqb ((x + 1) % 2) 1 ≡ not (eqb x 1)) (bit_at a k) (bit_two a k) refl refl
