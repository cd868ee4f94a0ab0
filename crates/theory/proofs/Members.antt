-- A step from a set that is given by its members.
use Rattle.std.proofs.Common.{◌≡◌, ℕ, ◌<◌, Bool, not, ◌&&◌, ◌||◌, eqb, ap, ◌∙◌, T_not}
use mathlib.Core.Path.{fun_ext}
use Rattle.theory.specs.Positions.{Positions}
use Rattle.theory.specs.Masks.{holds, those, some, ahead_set, back_set, common, masks}
use Rattle.theory.proofs.Tests.{same_test, no_test}
use Rattle.theory.proofs.Bit.{empty_is}
use Rattle.theory.proofs.Masks.{those_is, some_is, those_holds, some_same}

pub common_members : (n : ℕ) (f g : ℕ → Bool) → common n (holds (those n f)) g ≡ common n f g
common_members n f g =
    some_same n (λ p. holds (those n f) p && g p) (λ p. f p && g p) (λ p h. ap (λ x. x && g p) (those_holds n f p h))

pub empty_members : (n : ℕ) (f : ℕ → Bool) → eqb (those n f) 0 ≡ not (some n f)
empty_members n f =
    same_test (eqb (those n f) 0) (not (some n f)) (
      λ h. no_test (some n f) (λ x. let y = (some_is n f).0 x in (empty_is (those n f)).0 h y.0 ((those_is n f y.0).1 (y.1, y.2))),
      λ h. (empty_is (those n f)).1 (λ p x. let y = (those_is n f p).0 x in T_not (some n f) h ((some_is n f).1 (p, y.0, y.1))),
    )

module _ {Sym : Type 0} (passes : ℕ → Sym → Bool) (P : Positions) (n : ℕ) (h : 0 < n) (f : ℕ → Bool) (a : Sym) where
  pub ahead_members : (masks n passes P).ahead (those n f) a ≡ those n (ahead_set n passes P f a)
  ahead_members =
      ap (those n) (fun_ext (λ q. (
      ap (λ x. passes q a && (x && P.first q || common n (holds (those n f)) (λ p. P.follow p q))) (those_holds n f 0 h)
      ∙ ap (λ x. passes q a && (f 0 && P.first q || x)) (common_members n f (λ p. P.follow p q))
      )))

  pub back_members : (masks n passes P).back (those n f) a ≡ those n (back_set n passes P f a)
  back_members =
      ap (those n) (fun_ext (λ p. (
      ap (λ x. eqb p 0 || passes p a && (P.last p && x || common n (holds (those n f)) (P.follow p))) (those_holds n f 0 h)
      ∙ ap (λ x. eqb p 0 || passes p a && (P.last p && f 0 || x)) (common_members n f (P.follow p))
      )))
