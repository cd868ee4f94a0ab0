-- Members of a set that is a number.
use Rattle.std.proofs.Common.{◌≡◌, ℕ, zero, suc, ◌+◌, ◌-◌, ◌/◌, ◌%◌, ◌^◌, ◌<◌, ◌≤◌, max, T, eqb, ◌≢◌, ◌⊎◌, ◌↔◌, sym, ◌∙◌, inl, inr, lt_of_lt_of_le, add_comm, pow-suc, div-one, arith, eqb→eq, pow_pos, pow_mono, pow-add, shr-shr}
use native.Mathlib.Decide.{dec_lt, ℕ_discrete}
use native.Mathlib.Nat.{div-eq_of_lt, zero-div, div_self, mul-mod_left}
use lib.Bits.{bit_or, or_shr, or_step}
use lib.Pow.{pow-lt, shl-shr}
use Rattle.theory.specs.Masks.{bit, holds}

bit_or_lem : (a b p : ℕ) → bit (bit_or a b) p ≡ max (bit a p) (bit b p)
bit_or_lem a b p = rw or_shr (omega (arith, or_step (a / 2 ^ p) (b / 2 ^ p)))

bit_zero : (p : ℕ) → bit 0 p ≡ 0
bit_zero p = rw (zero-div (2 ^ p))

bit_pow : (n : ℕ) → bit (2 ^ n) n ≡ 1
bit_pow n = rw (div_self (pow_pos n))

bit_pow_above : (n p : ℕ) → n < p → bit (2 ^ n) p ≡ 0
bit_pow_above n p h = rw (div-eq_of_lt (pow-lt h))

bit_pow_below : (n p : ℕ) → p < n → bit (2 ^ n) p ≡ 0
bit_pow_below n p h =
    let e : n ≡ suc (n - suc p) + p = omega arith in
    rw (e, pow-add 2 (suc (n - suc p)) p, shl-shr (2 ^ suc (n - suc p)) p, pow-suc 2 (n - suc p), mul-mod_left)

-- p is a member of m
infix 40 ◌∈◌
abbrev pub ◌∈◌ : ℕ → ℕ → Type 0
p ∈ m = T (holds m p)

in_one : (m p : ℕ) → bit m p ≡ 1 → p ∈ m
in_one m p e = rw e tt

one_in : (m p : ℕ) → p ∈ m → bit m p ≡ 1
one_in m p h = eqb→eq (bit m p) 1 h

pub in_or : (a b p : ℕ) → (p ∈ bit_or a b) ↔ (p ∈ a ⊎ p ∈ b)
in_or a b p = (go, og)
  where
    go : p ∈ bit_or a b → p ∈ a ⊎ p ∈ b
    go h =
        let e : bit (bit_or a b) p ≡ 1 = one_in (bit_or a b) p h in
        elim (ℕ_discrete (bit a p) 1) [ yes x ↦ inl (in_one a p x) | no n ↦ inr (in_one b p (omega (arith, bit_or_lem a b p))) ]

    og : p ∈ a ⊎ p ∈ b → p ∈ bit_or a b
    og (inl h) = in_one (bit_or a b) p (omega (arith, bit_or_lem a b p, one_in a p h))
    og (inr h) = in_one (bit_or a b) p (omega (arith, bit_or_lem a b p, one_in b p h))

pub in_zero : (p : ℕ) → p ∈ 0 → ⊥
in_zero p h = omega (arith, one_in 0 p h, bit_zero p)

pub in_pow : (n p : ℕ) → (p ∈ (2 ^ n)) ↔ (p ≡ n)
in_pow n p = (go, λ e. in_one (2 ^ n) p (rw e (bit_pow n)))
  where
    go : p ∈ (2 ^ n) → p ≡ n
    go h =
        let e : bit (2 ^ n) p ≡ 1 = one_in (2 ^ n) p h in
        elim (dec_lt p n) [
          | yes l ↦ omega (arith, bit_pow_below n p l)
          | no g ↦ elim (dec_lt n p) [ yes l ↦ omega (arith, bit_pow_above n p l) | no k ↦ omega arith ]
        ]

-- a number below 2 ^ n has its members below n
pub in_below : (n m p : ℕ) → m < 2 ^ n → p ∈ m → p < n
in_below n m p h x =
    elim (dec_lt p n) [
      | yes l ↦ l
      | no g ↦
          let above : n ≤ p = omega arith in
          let le : m < 2 ^ p = lt_of_lt_of_le h (pow_mono above) in
          let z : m / 2 ^ p ≡ 0 = div-eq_of_lt le in
          let e : bit m p ≡ 1 = one_in m p x in
          absurd (omega (arith, z, e))
    ]

below_pow : (m : ℕ) → m < 2 ^ m
below_pow zero = omega arith
below_pow (suc m) = let h = below_pow m in omega arith

-- a number that is not 0 has a member
nonzero_in : (k m : ℕ) → m < 2 ^ k → m ≢ 0 → (p : ℕ) × p ∈ m
nonzero_in zero m h n = absurd (omega arith)
nonzero_in (suc k) m h n =
    elim (ℕ_discrete (m % 2) 1) [
      | yes e ↦ (0, in_one m 0 (rw div-one e))
      | no x ↦
          let r = nonzero_in k (m / 2) (omega arith) (omega arith) in
          let q : m / 2 / 2 ^ r.0 ≡ m / 2 ^ (1 + r.0) = shr-shr m 1 r.0 in
          (1 + r.0, in_one m (1 + r.0) (rw (← q) (one_in (m / 2) r.0 r.1)))
    ]

pub empty_is : (m : ℕ) → T (eqb m 0) ↔ ((p : ℕ) → p ∈ m → ⊥)
empty_is m = (λ h p i. in_zero p (rw (eqb→eq m 0 h) at i), og)
  where
    og : ((p : ℕ) → p ∈ m → ⊥) → T (eqb m 0)
    og n =
        elim (ℕ_discrete m 0) [
          | yes e ↦ rw e tt
          | no x ↦ let r = nonzero_in m m (below_pow m) x in absurd (n r.0 r.1)
        ]

-- masks with the same members are one number
same_bits : (k a b : ℕ) → a < 2 ^ k → b < 2 ^ k → ((p : ℕ) → bit a p ≡ bit b p) → a ≡ b
same_bits zero a b h i e = omega arith
same_bits (suc k) a b h i e =
    let low : a % 2 ≡ b % 2 = rw (div-one a, div-one b) at (e 0) in
    let high : a / 2 ≡ b / 2 = same_bits k (a / 2) (b / 2) (omega arith) (omega arith) (λ p. rw (shr-shr a 1 p, shr-shr b 1 p) (e (1 + p))) in
    omega arith

pub same_mask : (a b : ℕ) → ((p : ℕ) → bit a p ≡ bit b p) → a ≡ b
same_mask a b e =
    same_bits (a + b) a b (below a b) (rw (add_comm a b) (below b a)) e
  where
    below : (a b : ℕ) → a < 2 ^ (a + b)
    below a b = let x = below_pow (a + b) in omega arith

pub same_members : (a b : ℕ) → ((p : ℕ) → (p ∈ a) ↔ (p ∈ b)) → a ≡ b
same_members a b e = same_mask a b go
  where
    go : (p : ℕ) → bit a p ≡ bit b p
    go p =
        elim (ℕ_discrete (bit a p) 1) [
          | yes x ↦ x ∙ sym (one_in b p ((e p).0 (in_one a p x)))
          | no n ↦ elim (ℕ_discrete (bit b p) 1) [ yes y ↦ absurd (n (one_in a p ((e p).1 (in_one b p y)))) | no m ↦ omega arith ]
        ]
