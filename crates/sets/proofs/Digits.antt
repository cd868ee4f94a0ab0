-- A number from its lowest digit on: two numbers with the same digits are equal, and what counting ones and trailing zeros says of the digits.
use Rattle.std.proofs.Common.{◌≡◌, ℕ, zero, suc, ◌+◌, ◌/◌, ◌%◌, ◌^◌, ◌<◌, Bool, cond, eqb, ◌⊎◌, sym, refl, ap, ◌∙◌, subst, ap₂, ⊎_elim, div-one, add-one, one-add, arith}
use lib.Count.{ones, ones_step, count_trailing_zeros, under}
use Rattle.std.proofs.lemmas.Nat.{shr-shr, shr_below, div-add-mod'}
use Rattle.sets.specs.Members.{tally}
use Rattle.sets.specs.Masks.{bit}
use Rattle.sets.proofs.Bit.{bit_two, test}

pub bit_zero : (m : ℕ) → bit m 0 ≡ m % 2
bit_zero m = ap (λ x. x % 2) (div-one m)

pub bit_half : (m k : ℕ) → bit (m / 2) k ≡ bit m (suc k)
bit_half m k = ap (λ x. x % 2) (shr-shr m 1 k ∙ ap (λ j. m / 2 ^ j) (one-add k))

pub half_below : (w m : ℕ) → m < 2 ^ suc w → m / 2 < 2 ^ w
half_below w m h = shr_below m w 1 (subst (λ (x : ℕ). m < 2 ^ x) (sym (add-one w)) h)

pub digits_equal : (w a b : ℕ) → a < 2 ^ w → b < 2 ^ w → ((k : ℕ) → k < w → bit a k ≡ bit b k) → a ≡ b
digits_equal zero a b ha hb h = omega arith
digits_equal (suc w) a b ha hb h =
    let high : a / 2 ≡ b / 2 = digits_equal w (a / 2) (b / 2) (half_below w a ha) (half_below w b hb) (λ k l. bit_half a k ∙ h (suc k) (omega arith) ∙ sym (bit_half b k)) in
    let low : a % 2 ≡ b % 2 = sym (bit_zero a) ∙ h 0 (omega arith) ∙ bit_zero b in
    omega (arith, div-add-mod' a 2, div-add-mod' b 2)

-- a tally from its front
tally_front : (f : ℕ → Bool) (n : ℕ) → tally f (suc n) ≡ cond (f 0) 1 0 + tally (λ k. f (suc k)) n
unfolding tally
tally_front f zero = refl
tally_front f (suc n) =
    let r : tally f (suc n) ≡ cond (f 0) 1 0 + tally (λ k. f (suc k)) n = tally_front f n in
    omega (arith, r)

pub tally_same : (f g : ℕ → Bool) (n : ℕ) → ((k : ℕ) → k < n → f k ≡ g k) → tally f n ≡ tally g n
unfolding tally
tally_same f g zero h = refl
tally_same f g (suc n) h =
    ap₂ (λ (b : Bool) (t : ℕ). cond b 1 0 + t) (h n (omega arith)) (tally_same f g n (λ k l. h k (omega arith)))

digit : (x : ℕ) → (x ≡ 0) ⊎ (x ≡ 1) → cond (eqb x 1) 1 0 ≡ x
digit x = ⊎_elim (λ (e : x ≡ 0). rw e) (λ (e : x ≡ 1). rw e)

pub tally_ones : (w m : ℕ) → m < 2 ^ w → tally (test m) w ≡ ones m
unfolding tally ones
tally_ones zero m h = let z : m ≡ 0 = omega arith in rw z
tally_ones (suc w) m h =
    tally_front (test m) w
    ∙ ap₂ (λ (x y : ℕ). x + y) (digit (bit m 0) (bit_two m 0) ∙ bit_zero m)
    (tally_same (λ k. test m (suc k)) (test (m / 2)) w (λ k _. ap (λ x. eqb x 1) (sym (bit_half m k))) ∙ tally_ones w (m / 2) (half_below w m h))
    ∙ sym (ones_step m)

-- the digits below the lowest set one
zeros_step : (w n d j : ℕ) → n % 2 ≡ d → ((i : ℕ) → i < count_trailing_zeros w (n / 2) → bit (n / 2) i ≡ 0) → j < under d (count_trailing_zeros w (n / 2)) → bit n j ≡ 0
zeros_step w n zero zero e rest h = bit_zero n ∙ e
zeros_step w n zero (suc j) e rest h = sym (bit_half n j) ∙ rest j (omega arith)
zeros_step w n (suc d) j e rest h = absurd (omega arith)

pub zeros_below : (w n j : ℕ) → j < count_trailing_zeros w n → bit n j ≡ 0
unfolding count_trailing_zeros
zeros_below zero n j h = absurd (omega arith)
zeros_below (suc w) n j h = zeros_step w n (n % 2) j refl (λ i l. zeros_below w (n / 2) i l) h

one_step : (w n d : ℕ) → n % 2 ≡ d → (count_trailing_zeros w (n / 2) < w → bit (n / 2) (count_trailing_zeros w (n / 2)) ≡ 1) → under d (count_trailing_zeros w (n / 2)) < suc w → bit n (under d (count_trailing_zeros w (n / 2))) ≡ 1
one_step w n zero e rest h = sym (bit_half n (count_trailing_zeros w (n / 2))) ∙ rest (omega arith)
one_step w n (suc d) e rest h = bit_zero n ∙ omega arith

pub one_behind : (w n : ℕ) → count_trailing_zeros w n < w → bit n (count_trailing_zeros w n) ≡ 1
unfolding count_trailing_zeros
one_behind zero n h = absurd (omega arith)
one_behind (suc w) n h = one_step w n (n % 2) refl (one_behind w (n / 2)) h
