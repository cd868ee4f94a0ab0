-- What the operators on bits make of the members of a mask, at any width w.
use Rattle.std.proofs.Common.{◌≡◌, ℕ, ◌+◌, ◌-◌, ◌*◌, ◌/◌, ◌%◌, ◌^◌, ◌<◌, ◌≤◌, Bool, true, false, not, ◌&&◌, ◌||◌, eqb, ltb, ◌⊎◌, Decides, MatchBool, sym, refl, ap, ◌∙◌, subst, ⊎_elim, lt_of_lt_of_le, mod-lt, arith, pow_pos, pow_mono}
use mathlib.Core.Path.{fun_ext}
use native.Mathlib.Nat.{zero-div, div-eq_of_lt}
use lib.Bits.{bit_and, bit_or}
use lib.Count.{ones, count_trailing_zeros}
use Rattle.std.proofs.lemmas.Nat.{one_shl, shr-shr}
use Rattle.std.proofs.lemmas.Bool.{cases_lt, cases_eq, cases_Bool, lt-ltb, le-ltb, ltb-true, ne_eqb, eq-eqb, eqb-true, and_parts, and_from, both_ways}
use Rattle.std.proofs.lemmas.Bool.Decides.{nat_tests}
use Rattle.sets.specs.Members.{Members, none, below, plus, except, less, either, shared, tally, Meet}
use Rattle.sets.specs.Masks.{bit, mask}
use Rattle.sets.proofs.Bit.{test, test_or, test_and, test_pow, test_less, test_not, bit_full, bit_two}
use Rattle.sets.proofs.Digits.{digits_equal, tally_same, tally_ones, zeros_below, one_behind}

-- an equation of sets below the width is one of sets, as both lie below it
by_width : (w : ℕ) (f g : Members) → ((k : ℕ) → k < w → f k ≡ g k) → ((k : ℕ) → w ≤ k → f k ≡ g k) → f ≡ g
by_width w f g a b = fun_ext (λ k. ⊎_elim (λ (l : k < w). a k l) (λ (l : w ≤ k). b k l) (cases_lt k w))

pub mask_in : (w m k : ℕ) → k < w → mask w m k ≡ test m k
mask_in w m k h = rw (lt-ltb k w h)

pub mask_out : (w m k : ℕ) → w ≤ k → mask w m k ≡ false
mask_out w m k h = rw (le-ltb k w h)

pub mask_low : (w m k : ℕ) → mask w m k ≡ true → k < w
mask_low w m k e = ltb-true k w (and_parts (ltb k w) (test m k) e).0

or_swap : (a b : Bool) → (a || b) ≡ (b || a)
or_swap true true = refl
or_swap true false = refl
or_swap false true = refl
or_swap false false = refl

pub plus_mask : (w m p : ℕ) → p < w → mask w (bit_or m ((1 * 2 ^ p) % 2 ^ w)) ≡ plus w (mask w m) p
plus_mask w m p h =
    by_width w _ _
    (λ k l. rw (one_shl p w h, lt-ltb k w l, lt-ltb p w h, test_or m (2 ^ p) k, test_pow p k) (or_swap (test m k) (eqb k p)))
    (λ k l. rw (le-ltb k w l, ne_eqb k p (λ (e : k ≡ p). omega arith), lt-ltb p w h))

pub plus_high : (w m p : ℕ) → w ≤ p → mask w m ≡ plus w (mask w m) p
plus_high w m p h = fun_ext (λ k. rw (le-ltb p w h))

pub less_mask : (w a b : ℕ) → b < 2 ^ w → mask w (bit_and a ((2 ^ w - 1) - b)) ≡ less (mask w a) (mask w b)
less_mask w a b hb =
    by_width w _ _ (λ k l. rw (lt-ltb k w l, test_less w a b k hb l)) (λ k l. rw (le-ltb k w l))

pub either_mask : (w a b : ℕ) → mask w (bit_or a b) ≡ either (mask w a) (mask w b)
either_mask w a b = by_width w _ _ (λ k l. rw (lt-ltb k w l, test_or a b k)) (λ k l. rw (le-ltb k w l))

pub shared_mask : (w a b : ℕ) → mask w (bit_and a b) ≡ shared (mask w a) (mask w b)
shared_mask w a b = by_width w _ _ (λ k l. rw (lt-ltb k w l, test_and a b k)) (λ k l. rw (le-ltb k w l))

pub full_mask : (w : ℕ) → mask w (2 ^ w - 1) ≡ below w
full_mask w = by_width w _ _ (λ k l. rw (lt-ltb k w l, bit_full w k l)) (λ k l. rw (le-ltb k w l))

and_false : (b : Bool) → (b && false) ≡ false
and_false true = refl
and_false false = refl

zero_bit : (k : ℕ) → bit 0 k ≡ 0
zero_bit k = ap (λ x. x % 2) (zero-div (2 ^ k))

pub zero_mask : (w : ℕ) → mask w 0 ≡ none
zero_mask w = fun_ext (λ k. ap (λ x. ltb k w && eqb x 1) (zero_bit k) ∙ and_false (ltb k w))

-- taking one out, by taking a set of one away
less_here : (f : Members) (w k : ℕ) → (f k ≡ true → k < w) → less f (plus w none k) k ≡ except f k k
less_here f w k low =
    ⊎_elim
    (λ (e : f k ≡ true). rw (lt-ltb k w (low e), eq-eqb k k refl))
    (λ (e : f k ≡ false). rw e)
    (cases_Bool (f k))

pub less_one : (f : Members) (w p : ℕ) → ((k : ℕ) → f k ≡ true → k < w) → less f (plus w none p) ≡ except f p
less_one f w p low =
    fun_ext
    (λ k.
    ⊎_elim
    (λ (e : k ≡ p). subst (λ (x : ℕ). less f (plus w none x) k ≡ except f x k) e (less_here f w k (low k)))
    (λ (e : k ≡ p → ⊥). rw (ne_eqb k p e, and_false (ltb p w)))
    (cases_eq k p))

pub count_mask : (w m : ℕ) → m < 2 ^ w → ones m ≡ tally (mask w m) w
count_mask w m h = sym (tally_same (mask w m) (test m) w (λ k l. mask_in w m k l) ∙ tally_ones w m h)

-- the lowest member, as the count of trailing zeros says
pub lowest_mask : (w m : ℕ) → count_trailing_zeros w m < w → mask w m (count_trailing_zeros w m) ≡ true
lowest_mask w m h = mask_in w m (count_trailing_zeros w m) h ∙ ap (λ x. eqb x 1) (one_behind w m h)

pub no_mask : (w m : ℕ) → w ≤ count_trailing_zeros w m → mask w m ≡ none
no_mask w m h =
    by_width w _ _
    (λ k l. mask_in w m k l ∙ ap (λ x. eqb x 1) (zeros_below w m k (omega arith)))
    (λ k l. mask_out w m k l)

same_digits : (w a b k : ℕ) → k < w → mask w a ≡ mask w b → bit a k ≡ bit b k
same_digits w a b k l e =
    both_bits (bit a k) (bit b k) (bit_two a k) (bit_two b k) (sym (mask_in w a k l) ∙ ap (λ f. f k) e ∙ mask_in w b k l)
  where
    both_bits : (x y : ℕ) → (x ≡ 0) ⊎ (x ≡ 1) → (y ≡ 0) ⊎ (y ≡ 1) → eqb x 1 ≡ eqb y 1 → x ≡ y
    both_bits x y p q t = grind (arith, nat_tests)

-- two numbers that are one set are equal
pub one_mask : (w a b : ℕ) → a < 2 ^ w → b < 2 ^ w → mask w a ≡ mask w b → a ≡ b
one_mask w a b ha hb e = digits_equal w a b ha hb (λ k l. same_digits w a b k l e)

pub same_mask : (w a b : ℕ) → a < 2 ^ w → b < 2 ^ w → Decides (eqb a b) (mask w a ≡ mask w b)
same_mask w a b ha hb = (λ t. ap (mask w) (eqb-true a b t), λ e. eq-eqb a b (one_mask w a b ha hb e))

pub empty_mask : (w m : ℕ) → m < 2 ^ w → MatchBool (eqb m 0) (mask w m ≡ none) ((k : ℕ) × (mask w m k ≡ true))
empty_mask w m h =
    ⊎_elim
    (λ (e : m ≡ 0). rw (eq-eqb m 0 e) (ap (mask w) e ∙ zero_mask w))
    (λ (d : m ≡ 0 → ⊥).
    rw (ne_eqb m 0 d)
    (⊎_elim
    (λ (l : count_trailing_zeros w m < w). (count_trailing_zeros w m, lowest_mask w m l))
    (λ (l : w ≤ count_trailing_zeros w m). absurd (d (one_mask w m 0 h (pow_pos w) (no_mask w m l ∙ sym (zero_mask w)))))
    (cases_lt (count_trailing_zeros w m) w)))
    (cases_eq m 0)

-- the lowest number that is not a member
out_digit : (w b k : ℕ) → b < 2 ^ w → k < w → mask w b k ≡ not (test ((2 ^ w - 1) - b) k)
out_digit w b k hb l = mask_in w b k l ∙ sym (ap not (test_not w b k hb l) ∙ not_not (test b k))
  where
    not_not : (x : Bool) → not (not x) ≡ x
    not_not true = refl
    not_not false = refl

pub free_mask : (w b p : ℕ) → b < 2 ^ w → p ≡ count_trailing_zeros w ((2 ^ w - 1) - b) → p < w → mask w b p ≡ false
free_mask w b p hb e l =
    out_digit w b p hb l
    ∙ ap (λ x. not (eqb x 1)) (ap (bit ((2 ^ w - 1) - b)) e ∙ one_behind w ((2 ^ w - 1) - b) (subst (λ (x : ℕ). x < w) e l))

pub below_free : (w b k p : ℕ) → b < 2 ^ w → p ≡ count_trailing_zeros w ((2 ^ w - 1) - b) → k < w → k < p → mask w b k ≡ true
below_free w b k p hb e l h =
    out_digit w b k hb l ∙ ap (λ x. not (eqb x 1)) (zeros_below w ((2 ^ w - 1) - b) k (subst (λ (x : ℕ). k < x) e h))

pub no_free : (w b p : ℕ) → b < 2 ^ w → p ≡ count_trailing_zeros w ((2 ^ w - 1) - b) → w ≤ p → mask w b ≡ below w
no_free w b p hb e h =
    by_width w _ _
    (λ k l. below_free w b k p hb e l (omega arith) ∙ sym (lt-ltb k w l))
    (λ k l. mask_out w b k l ∙ sym (le-ltb k w l))

-- the lowest member from a number on
shifted : (m a j : ℕ) → bit (m / 2 ^ a) j ≡ bit m (a + j)
shifted m a j = ap (λ x. x % 2) (shr-shr m a j)

high_zero : (w m k : ℕ) → m < 2 ^ w → w ≤ k → bit m k ≡ 0
high_zero w m k h l = ap (λ x. x % 2) (div-eq_of_lt (lt_of_lt_of_le h (pow_mono l)))

pub from_here : (w m a p : ℕ) → m < 2 ^ w → p ≡ count_trailing_zeros w (m / 2 ^ a) → p < w → mask w m (a + p) ≡ true
from_here w m a p hm e l =
    let one : bit m (a + p) ≡ 1 = sym (shifted m a p) ∙ ap (bit (m / 2 ^ a)) e ∙ one_behind w (m / 2 ^ a) (subst (λ (x : ℕ). x < w) e l) in
    ⊎_elim
    (λ (h : a + p < w). mask_in w m (a + p) h ∙ ap (λ x. eqb x 1) one)
    (λ (h : w ≤ a + p). absurd (let z : bit m (a + p) ≡ 0 = high_zero w m (a + p) hm h in omega arith))
    (cases_lt (a + p) w)

pub from_before : (w m a p k : ℕ) → p ≡ count_trailing_zeros w (m / 2 ^ a) → a ≤ k → k < a + p → mask w m k ≡ false
from_before w m a p k e la lk =
    let s : a + (k - a) ≡ k = omega arith in
    let z : bit m k ≡ 0 = sym (ap (bit m) s) ∙ sym (shifted m a (k - a)) ∙ zeros_below w (m / 2 ^ a) (k - a) (subst (λ (x : ℕ). k - a < x) e (omega arith)) in
    ap (λ x. ltb k w && eqb x 1) z ∙ and_false (ltb k w)

pub from_none : (w m a p k : ℕ) → p ≡ count_trailing_zeros w (m / 2 ^ a) → w ≤ p → a ≤ k → mask w m k ≡ false
from_none w m a p k e l la =
    ⊎_elim
    (λ (h : k < w). from_before w m a p k e la (omega arith))
    (λ (h : w ≤ k). mask_out w m k h)
    (cases_lt k w)

-- sets meet exactly if what they share is not empty
pub meets_by : (f g h : Members) (r : Bool) → h ≡ shared f g → MatchBool r (h ≡ none) ((k : ℕ) × (h k ≡ true)) → Decides (not r) (Meet f g)
meets_by f g h true e n = (
  λ t. absurd (both_ways false refl t),
  λ m. absurd (both_ways (h m.0) (ap (λ x. x m.0) n) (ap (λ x. x m.0) e ∙ and_from (f m.0) (g m.0) m.1 m.2)),
)
meets_by f g h false e n =
    let m = and_parts (f n.0) (g n.0) (sym (ap (λ x. x n.0) e) ∙ n.1) in
    (λ _. (n.0, m.0, m.1), λ _. refl)

-- a set of one
pub pow_mask : (w p : ℕ) → p < w → mask w ((1 * 2 ^ p) % 2 ^ w) ≡ plus w none p
pow_mask w p h =
    by_width w _ _
    (λ k l. rw (one_shl p w h, lt-ltb k w l, lt-ltb p w h, test_pow p k) (or_swap false (eqb k p)))
    (λ k l. rw (le-ltb k w l, ne_eqb k p (λ (e : k ≡ p). omega arith), lt-ltb p w h))

single_is : (w q k : ℕ) → plus w none q k ≡ true → k ≡ q
single_is w q k e = eqb-true k q (and_parts (ltb q w) (eqb k q) (or_swap false (ltb q w && eqb k q) ∙ e)).1

single_has : (w q : ℕ) → q < w → plus w none q q ≡ true
single_has w q h = rw (lt-ltb q w h, eq-eqb q q refl)

pub not_sole : (w m p q : ℕ) → m < 2 ^ w → p ≡ count_trailing_zeros w m → (p < w → m ≡ (1 * 2 ^ p) % 2 ^ w → ⊥) → q < w → mask w m ≡ plus w none q → ⊥
not_sole w m p q hm e ne hq is =
    ⊎_elim
    (λ (l : p < w).
    let here : mask w m p ≡ true = ap (mask w m) e ∙ lowest_mask w m (subst (λ (x : ℕ). x < w) e l) in
    let s : p ≡ q = single_is w q p (sym (ap (λ f. f p) is) ∙ here) in
    let same : mask w m ≡ mask w ((1 * 2 ^ p) % 2 ^ w) = is ∙ ap (plus w none) (sym s) ∙ sym (pow_mask w p l) in
    ne l (one_mask w m ((1 * 2 ^ p) % 2 ^ w) hm (mod-lt (1 * 2 ^ p) (pow_pos w)) same))
    (λ (l : w ≤ p).
    let gone : mask w m ≡ none = no_mask w m (subst (λ (x : ℕ). w ≤ x) e l) in
    both_ways (plus w none q q) (sym (ap (λ f. f q) is) ∙ ap (λ f. f q) gone) (single_has w q hq))
    (cases_lt p w)
