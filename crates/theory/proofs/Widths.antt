-- Sets that are numbers are the same at any width that suffices; and symbols that pass the same tests lead alike.
use Rattle.std.proofs.Common.{◌≡◌, ℕ, Bool, T, eqb, ◌↔◌, sym, ap, ◌∙◌, subst, inl, inr}
use mathlib.Core.Path.{fun_ext}
use mathlib.Core.Logic.Iff
use Rattle.theory.specs.declared.Direction.{Direction}
use Rattle.theory.specs.declared.Direction.TheVariants as way
use Rattle.theory.specs.Positions.{Positions}
use Rattle.theory.specs.Steps.{Ahead, Back}
use Rattle.theory.specs.Machine.{Machine, Has, Lawful, Extensional, rule}
use Rattle.theory.specs.Masks.{holds, masks, Within}
use Rattle.theory.proofs.Tests.{same_test}
use Rattle.theory.proofs.Bit.{same_members}
use Rattle.theory.proofs.Masks.{masks_lawful}

module _ {Sym : Type 0} (passes : ℕ → Sym → Bool) (P : Positions) where
  abbrev with : (ℕ → Sym → ℕ) → (ℕ → Sym → ℕ) → (ℕ → Bool) → (ℕ → Bool) → Machine Sym ℕ
  with ahead back first last =
      record { has = holds; begin = 1; ahead = ahead; back = back; first = first; last = last; empty = λ S. eqb S 0; nullable = P.nullable }

  pub any_width : (n k : ℕ) → Within n P → Within k P → masks n passes P ≡ masks k passes P
  any_width n k h g =
      let a = masks_lawful n passes P h in
      let b = masks_lawful k passes P g in
      let m = masks n passes P in
      let w = masks k passes P in
      let ahead : m.ahead ≡ w.ahead = fun_ext (λ S. fun_ext (λ x. same_members (m.ahead S x) (w.ahead S x) (λ p. Iff.trans (a.ahead_is S x p) (Iff.symm (b.ahead_is S x p))))) in
      let back : m.back ≡ w.back = fun_ext (λ S. fun_ext (λ x. same_members (m.back S x) (w.back S x) (λ p. Iff.trans (a.back_is S x p) (Iff.symm (b.back_is S x p))))) in
      let first : m.first ≡ w.first = fun_ext (λ S. same_test (m.first S) (w.first S) (Iff.trans (a.first_is S) (Iff.symm (b.first_is S)))) in
      let last : m.last ≡ w.last = fun_ext (λ S. same_test (m.last S) (w.last S) (Iff.trans (a.last_is S) (Iff.symm (b.last_is S)))) in
      ap (λ f. with f m.back m.first m.last) ahead ∙ ap (λ f. with w.ahead f m.first m.last) back
      ∙ ap (λ f. with w.ahead w.back f m.last) first ∙ ap (λ f. with w.ahead w.back w.first f) last

module _ {Sym Set : Type 0} (passes : ℕ → Sym → Bool) (P : Positions) (m : Machine Sym Set) (lawful : Lawful passes P m) (same : Extensional m) (a b : Sym) (e : (p : ℕ) → passes p a ≡ passes p b) where
  ahead_alike : (S : ℕ → Type 0) (p : ℕ) → Ahead passes P S a p ↔ Ahead passes P S b p
  ahead_alike S p = (λ h. (subst T (e p) h.0, h.1), λ h. (subst T (sym (e p)) h.0, h.1))

  back_alike : (S : ℕ → Type 0) (p : ℕ) → Back passes P S a p ↔ Back passes P S b p
  back_alike S p = (
    elim [ inl z ↦ inl z | inr h ↦ inr (subst T (e p) h.0, h.1) ],
    elim [ inl z ↦ inl z | inr h ↦ inr (subst T (sym (e p)) h.0, h.1) ],
  )

  pub alike : (d : Direction) (S : Set) → rule m d S a ≡ rule m d S b
  alike way.Ahead S =
      same (m.ahead S a) (m.ahead S b) (λ p. Iff.trans (lawful.ahead_is S a p) (Iff.trans (ahead_alike (Has m S) p) (Iff.symm (lawful.ahead_is S b p))))
  alike way.Back S =
      same (m.back S a) (m.back S b) (λ p. Iff.trans (lawful.back_is S a p) (Iff.trans (back_alike (Has m S) p) (Iff.symm (lawful.back_is S b p))))
