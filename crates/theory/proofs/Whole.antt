-- The ahead scan over a whole record says yes exactly when the record is a word.
use Rattle.std.proofs.Common.{ℕ, Bool, true, false, cond, T, ◌↔◌, List, [], ◌∷◌, sym, subst}
use mathlib.Core.Logic.Iff
use Rattle.theory.specs.Positions.{Positions}
use Rattle.theory.specs.Steps.{Tell}
use Rattle.theory.specs.Machine.{Machine, Lawful}
use Rattle.theory.specs.Scans.{reach, run, whole}
use Rattle.theory.proofs.Sets.{dead, last_says}

module _ {Sym Set : Type 0} (passes : ℕ → Sym → Bool) (P : Positions) (m : Machine Sym Set) (lawful : Lawful passes P m) where
  run_is : (w : List Sym) (S : Set) → T (run m S w) ↔ T (m.last (reach m S w))
  run_is [] S = (λ h. h, λ h. h)
  run_is (a ∷ w) S =
      let ih : T (run m (m.ahead S a) w) ↔ T (m.last (reach m (m.ahead S a) w)) = run_is w (m.ahead S a) in
      (elim (m.empty (m.ahead S a)) as
      (λ x. (T x → T (m.last (reach m (m.ahead S a) w)) → ⊥) → T (cond x false (run m (m.ahead S a) w)) ↔ T (m.last (reach m (m.ahead S a) w))) [
        | true ↦ λ n. (λ h. absurd h, n tt)
        | false ↦ λ n. ih
      ])
      (λ e h. let s = (lawful.last_is (reach m (m.ahead S a) w)).0 h in dead passes P m lawful (m.ahead S a) ((lawful.empty_is (m.ahead S a)).0 e) w s.0 s.1)

  pub whole_word : (L : List Sym → Type 0) → Tell passes P L → (r : List Sym) → T (whole m r) ↔ L r
  whole_word L tell [] = (
    λ h. tell.empty.0 (subst T lawful.nullable_is h),
    λ h. subst T (sym lawful.nullable_is) (tell.empty.1 h),
  )
  whole_word L tell (a ∷ w) = Iff.trans (run_is (a ∷ w) m.begin) (last_says passes P m lawful L tell a w)
