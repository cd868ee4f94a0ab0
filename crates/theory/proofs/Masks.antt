-- Sets that are numbers make a lawful machine, the same at any width that suffices.
use Rattle.std.proofs.Common.{◌≡◌, ℕ, zero, suc, ◌^◌, ◌<◌, Bool, true, false, cond, ◌&&◌, ◌||◌, T, eqb, ◌⊎◌, ◌↔◌, Some, None, Option, sym, refl, subst, inl, inr, arith}
use native.Mathlib.Decide.{dec_lt}
use Rattle.pattern.specs.Tree.{Tree}
use Rattle.theory.specs.Positions.{Positions, positions, FromOne, atoms}
use Rattle.theory.specs.Steps.{Ahead, Back, Meets}
use Rattle.theory.specs.Machine.{Lawful}
use Rattle.theory.specs.Masks.{holds, those, some, ahead_set, back_set, common, masks, Within, machine}
use Rattle.theory.proofs.Tests.{or_left, or_right, or_cases, and_is, or_is, eq_is, self_is, same_test}
use Rattle.theory.proofs.Bit.{◌∈◌, in_or, in_zero, in_pow, in_below, empty_is, same_members}
use Rattle.theory.proofs.Numbers.{range, first_in, last_in, follow_in}
use Rattle.theory.proofs.Places.{first_is, last_is, follow_is}

in_cond : (b : Bool) (m p : ℕ) → (p ∈ cond b m 0) ↔ (T b × p ∈ m)
in_cond true m p = (λ h. (tt, h), λ h. h.1)
in_cond false m p = (λ h. absurd (in_zero p h), λ h. absurd h.0)

pub those_is : (n : ℕ) (f : ℕ → Bool) (p : ℕ) → (p ∈ those n f) ↔ ((p < n) × T (f p))
unfolding those
those_is zero f p = (λ h. absurd (in_zero p h), λ h. absurd (omega (arith, h.0)))
those_is (suc k) f p = (
  λ h.
      elim ((in_or (those k f) (cond (f k) (2 ^ k) 0) p).0 h) [
        | inl x ↦ let y = (those_is k f p).0 x in (omega (arith, y.0), y.1)
        | inr x ↦
            let y = (in_cond (f k) (2 ^ k) p).0 x in
            let e : p ≡ k = (in_pow k p).0 y.1 in
            (omega arith, rw e y.0)
      ],
  λ h.
      (in_or (those k f) (cond (f k) (2 ^ k) 0) p).1
      (elim (dec_lt p k) [
        | yes l ↦ inl ((those_is k f p).1 (l, h.1))
        | no n ↦ let e : p ≡ k = omega (arith, h.0) in inr ((in_cond (f k) (2 ^ k) p).1 (rw e at h.1, (in_pow k p).1 e))
      ]),
)

pub some_is : (n : ℕ) (f : ℕ → Bool) → T (some n f) ↔ ((p : ℕ) × (p < n) × T (f p))
unfolding some
some_is zero f = (λ h. absurd h, λ h. absurd (omega (arith, h.1)))
some_is (suc k) f = (
  λ h.
      elim (or_cases (some k f) (f k) h) [
        | inl x ↦ let y = (some_is k f).0 x in (y.0, omega (arith, y.1), y.2)
        | inr x ↦ (k, omega arith, x)
      ],
  λ h.
      elim (dec_lt h.0 k) [
        | yes l ↦ or_left (some k f) (f k) ((some_is k f).1 (h.0, l, h.2))
        | no n ↦ let e : h.0 ≡ k = omega (arith, h.1) in or_right (some k f) (f k) (rw e at h.2)
      ],
)

-- a set made from members has them, and a number below 2 ^ n is the set of its members
pub those_holds : (n : ℕ) (f : ℕ → Bool) (p : ℕ) → p < n → holds (those n f) p ≡ f p
those_holds n f p h = same_test (holds (those n f) p) (f p) (λ x. ((those_is n f p).0 x).1, λ x. (those_is n f p).1 (h, x))

pub number_those : (n S : ℕ) (f : ℕ → Bool) → S < 2 ^ n → ((p : ℕ) → p < n → holds S p ≡ f p) → S ≡ those n f
number_those n S f h e =
    same_members S (those n f) (λ p. (
      λ x. let l = in_below n S p h x in (those_is n f p).1 (l, subst T (e p l) x),
      λ x. let y = (those_is n f p).0 x in subst T (sym (e p y.0)) y.1,
    ))

-- only members below n count
pub those_same : (n : ℕ) (f g : ℕ → Bool) → ((p : ℕ) → p < n → f p ≡ g p) → those n f ≡ those n g
those_same n f g e =
    same_members (those n f) (those n g) (λ p. (
      λ x. let y = (those_is n f p).0 x in (those_is n g p).1 (y.0, subst T (e p y.0) y.1),
      λ x. let y = (those_is n g p).0 x in (those_is n f p).1 (y.0, subst T (sym (e p y.0)) y.1),
    ))

pub some_same : (n : ℕ) (f g : ℕ → Bool) → ((p : ℕ) → p < n → f p ≡ g p) → some n f ≡ some n g
some_same n f g e =
    same_test (some n f) (some n g) (
      λ x. let y = (some_is n f).0 x in (some_is n g).1 (y.0, y.1, subst T (e y.0 y.1) y.2),
      λ x. let y = (some_is n g).0 x in (some_is n f).1 (y.0, y.1, subst T (sym (e y.0 y.1)) y.2),
    )

module _ {Sym : Type 0} (n : ℕ) (passes : ℕ → Sym → Bool) (P : Positions) (within : Within n P) where
  -- some member of S that f relates, looked for below n
  among : (S : ℕ) (f : ℕ → Bool) → ((p : ℕ) → T (f p) → p < n) → T (common n (holds S) f) ↔ Meets (λ p. p ∈ S) f
  among S f low = (
    λ h. let x = (some_is n (λ p. holds S p && f p)).0 h in let y = (and_is (holds S x.0) (f x.0) (self_is (holds S x.0)) (self_is (f x.0))).0 x.2 in (x.0, y.0, y.1),
    λ h. (some_is n (λ p. holds S p && f p)).1 (h.0, low h.0 h.2, (and_is (holds S h.0) (f h.0) (self_is (holds S h.0)) (self_is (f h.0))).1 (h.1, h.2)),
  )

  abbrev after : ℕ → ℕ → Bool
  after S q = holds S 0 && P.first q || some n (λ p. holds S p && P.follow p q)

  abbrev before : ℕ → ℕ → Bool
  before S p = P.last p && holds S 0 || some n (λ q. holds S q && P.follow p q)

  after_is : (S q : ℕ) → T (after S q) ↔ ((0 ∈ S × T (P.first q)) ⊎ Meets (λ p. p ∈ S) (λ p. P.follow p q))
  after_is S q =
      or_is (holds S 0 && P.first q) (some n (λ p. holds S p && P.follow p q))
      (and_is (holds S 0) (P.first q) (self_is (holds S 0)) (self_is (P.first q)))
      (among S (λ p. P.follow p q) (λ p h. (within.follow p q h).0))

  before_is : (S p : ℕ) → T (before S p) ↔ ((T (P.last p) × 0 ∈ S) ⊎ Meets (λ q. q ∈ S) (P.follow p))
  before_is S p =
      or_is (P.last p && holds S 0) (some n (λ q. holds S q && P.follow p q))
      (and_is (P.last p) (holds S 0) (self_is (P.last p)) (self_is (holds S 0)))
      (among S (P.follow p) (λ q h. (within.follow p q h).1))

  ahead_is : (S : ℕ) (a : Sym) (q : ℕ) → (q ∈ those n (ahead_set n passes P (holds S) a)) ↔ Ahead passes P (λ p. p ∈ S) a q
  ahead_is S a q = (go, og)
    where
      both : T (passes q a && after S q) ↔ (T (passes q a) × ((0 ∈ S × T (P.first q)) ⊎ Meets (λ p. p ∈ S) (λ p. P.follow p q)))
      both = and_is (passes q a) (after S q) (self_is (passes q a)) (after_is S q)

      go : q ∈ those n (ahead_set n passes P (holds S) a) → Ahead passes P (λ p. p ∈ S) a q
      go h =
          let x = both.0 ((those_is n (ahead_set n passes P (holds S) a) q).0 h).1 in
          (x.0, elim x.1 [ inl y ↦ (0, y.0, inl (refl, y.1)) | inr y ↦ (y.0, y.1, inr y.2) ])

      og : Ahead passes P (λ p. p ∈ S) a q → q ∈ those n (ahead_set n passes P (holds S) a)
      og (x, (p, s, inl (e, f))) =
          (those_is n (ahead_set n passes P (holds S) a) q).1 (within.first q f, both.1 (x, inl (subst (λ k. k ∈ S) e s, f)))
      og (x, (p, s, inr f)) =
          (those_is n (ahead_set n passes P (holds S) a) q).1 ((within.follow p q f).1, both.1 (x, inr (p, s, f)))

  back_is : (S : ℕ) (a : Sym) (p : ℕ) → (p ∈ those n (back_set n passes P (holds S) a)) ↔ Back passes P (λ q. q ∈ S) a p
  back_is S a p = (
    λ h. either.0 ((those_is n (back_set n passes P (holds S) a) p).0 h).1,
    λ h. (those_is n (back_set n passes P (holds S) a) p).1 (low h, either.1 h),
  )
    where
      either : T (eqb p 0 || passes p a && before S p) ↔ Back passes P (λ q. q ∈ S) a p
      either = or_is (eqb p 0) (passes p a && before S p) (eq_is p 0) (and_is (passes p a) (before S p) (self_is (passes p a)) (before_is S p))

      low : Back passes P (λ q. q ∈ S) a p → p < n
      low (inl e) = omega (arith, within.zero)
      low (inr (x, inl y)) = within.last p y.0
      low (inr (x, inr y)) = (within.follow p y.0 y.2).0

  pub masks_lawful : Lawful passes P (masks n passes P)
  masks_lawful =
      record {
        begin_is = in_pow 0;
        ahead_is = ahead_is;
        back_is = back_is;
        first_is = λ S. among S P.first within.first;
        last_is = λ S. among S P.last within.last;
        empty_is = empty_is;
        nullable_is = refl;
      }

-- the positions of a pattern are below any number above its atoms
pub within : (o : Option Tree) (n : ℕ) → FromOne o → atoms o < n → Within n (positions o)
within None n h few =
    record { zero = omega arith; first = λ p x. absurd x; last = λ p x. absurd x; follow = λ p q x. absurd x }
within (Some t) n h few =
    record {
      zero = omega arith;
      first = λ p x. let b = range t 1 p h (first_in t p ((first_is t p).0 x)) in omega arith;
      last = λ p x. let b = range t 1 p h (last_in t p ((last_is t p).0 x)) in omega arith;
      follow = λ p q x.
          let i = follow_in t p q ((follow_is t p q).0 x) in
          let b = range t 1 p h i.0 in
          let c = range t 1 q h i.1 in
          (omega arith, omega arith);
    }

pub machine_lawful : {Sym : Type 0} (passes : ℕ → Sym → Bool) (o : Option Tree) → FromOne o → Lawful passes (positions o) (machine passes o)
machine_lawful passes o h = masks_lawful (suc (atoms o)) passes (positions o) (within o (suc (atoms o)) h (omega arith))
