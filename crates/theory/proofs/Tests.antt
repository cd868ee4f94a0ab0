-- Tests as facts.
use Rattle.std.proofs.Common.{◌≡◌, ℕ, Bool, true, false, not, ◌&&◌, ◌||◌, T, eqb, ◌⊎◌, ◌↔◌, refl, inl, inr, eqb→eq}
use lib.Dec.{eqb_refl}

pub and_both : (a b : Bool) → T a → T b → T (a && b)
and_both true b x y = y
and_both false b x y = x

pub and_left : (a b : Bool) → T (a && b) → T a
and_left true b h = tt
and_left false b h = h

pub and_right : (a b : Bool) → T (a && b) → T b
and_right true b h = h
and_right false b h = absurd h

pub or_left : (a b : Bool) → T a → T (a || b)
or_left true b h = tt
or_left false b h = absurd h

pub or_right : (a b : Bool) → T b → T (a || b)
or_right true b h = tt
or_right false b h = h

pub or_cases : (a b : Bool) → T (a || b) → T a ⊎ T b
or_cases true b h = inl tt
or_cases false b h = inr h

pub and_is : {A B : Type 0} (a b : Bool) → T a ↔ A → T b ↔ B → T (a && b) ↔ (A × B)
and_is a b e f = (
  λ h. (e.0 (and_left a b h), f.0 (and_right a b h)),
  λ h. and_both a b (e.1 h.0) (f.1 h.1),
)

pub or_is : {A B : Type 0} (a b : Bool) → T a ↔ A → T b ↔ B → T (a || b) ↔ (A ⊎ B)
or_is a b e f = (
  λ h. elim (or_cases a b h) [ inl x ↦ inl (e.0 x) | inr y ↦ inr (f.0 y) ],
  elim [ inl x ↦ or_left a b (e.1 x) | inr y ↦ or_right a b (f.1 y) ],
)

pub eq_is : (a b : ℕ) → T (eqb a b) ↔ (a ≡ b)
eq_is a b = (eqb→eq a b, λ e. rw e (eqb_refl b))

pub self_is : (a : Bool) → T a ↔ T a
self_is a = (λ h. h, λ h. h)

-- tests that hold together are one
pub same_test : (a b : Bool) → T a ↔ T b → a ≡ b
same_test true true e = refl
same_test true false e = absurd (e.0 tt)
same_test false true e = absurd (e.1 tt)
same_test false false e = refl

pub no_test : (a : Bool) → (T a → ⊥) → T (not a)
no_test true n = n tt
no_test false n = tt
