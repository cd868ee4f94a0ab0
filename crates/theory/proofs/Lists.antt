-- The list by scans is the list of the relation, which has one answer.
use Rattle.std.proofs.Common.{◌≡◌, ℕ, zero, suc, Bool, List, ◌∷◌, Some, None, Option, refl, ap, subst, arith}
use Rattle.theory.specs.declared.Span.{Span}
use Rattle.theory.specs.Positions.{Positions}
use Rattle.theory.specs.Steps.{Tell}
use Rattle.theory.specs.Spans.{Finds, Lists}
use Rattle.theory.specs.Spans.Lists.{done, full, next}
use Rattle.theory.specs.Machine.{Machine, Lawful}
use Rattle.theory.specs.Scans.{find, Listing, no_entry, one_entry, list}
use Rattle.theory.specs.Theorems.{RestSays}
use Rattle.theory.proofs.Find.{finds_one, find_finds}

module _ {Sym : Type 0} (L : List Sym → Type 0) (r : List Sym) where
  clash : (from : ℕ) (x : Span) → Finds L r from None → Finds L r from (Some x) → ⊥
  clash from x n y = n x y.behind y.match

  pub lists_one : {from k : ℕ} {xs ys : List Span} {o p : Option ℕ} → Lists L r from k xs o → Lists L r from k ys p → (xs ≡ ys) × (o ≡ p)
  lists_one (done f) (done g) = (refl, refl)
  lists_one {from} (done f) (full y g) = absurd (clash from y f g)
  lists_one {from} (done f) (next y g l) = absurd (clash from y f g)
  lists_one {from} (full x f) (done g) = absurd (clash from x g f)
  lists_one (full x f) (full y g) = (refl, refl)
  lists_one {from} (next x f l) (done g) = absurd (clash from x g f)
  lists_one {from} (next {entries} {xs} {rest} x f l) (next {xs = ys} {rest = o} y g n) =
      let q : Some x ≡ Some y = finds_one L r from (Some x) (Some y) f g in
      let same : y ≡ x = cc in
      let i = lists_one l (subst (λ (z : Span). Lists L r z.end entries ys o) same n) in
      let e = i.0 in
      (cc, i.1)

  -- what the rest says
  pub lists_rest : {from k : ℕ} {xs : List Span} {o : Option ℕ} → Lists L r from k xs o → RestSays L r from k xs o
  lists_rest (done f) = (omega arith, f)
  lists_rest (full x f) = (refl, refl, (x, f))
  lists_rest {from} (next {entries} {xs} {rest} x f l) = more from x entries xs rest (lists_rest l)
    where
      more : (from : ℕ) (x : Span) (entries : ℕ) (xs : List Span) (rest : Option ℕ) → RestSays L r x.end entries xs rest → RestSays L r from (suc entries) (x ∷ xs) rest
      more from x entries xs None h = (omega (arith, h.0), h.1)
      more from x entries xs (Some e) h = (h.0, ap suc h.1, h.2)

module _ {Sym Set : Type 0} (passes : ℕ → Sym → Bool) (P : Positions) (m : Machine Sym Set) (lawful : Lawful passes P m) (L : List Sym → Type 0) (tell : Tell passes P L) (r : List Sym) where
  abbrev Listed : ℕ → ℕ → Listing → Type 0
  Listed from k l = Lists L r from k l.written l.rest

  pub list_lists : (k from : ℕ) → Listed from k (list m r k from)
  list_lists zero from = go (find m r from) (find_finds passes P m lawful L tell r from)
    where
      go : (o : Option Span) → Finds L r from o → Listed from 0 (no_entry from o)
      go None f = done f
      go (Some x) f = full x f
  list_lists (suc k) from = go (find m r from) (find_finds passes P m lawful L tell r from) (list_lists k)
    where
      go : (o : Option Span) → Finds L r from o → ((e : ℕ) → Listed e k (list m r k e)) → Listed from (suc k) (one_entry o (list m r k))
      go None f further = done f
      go (Some x) f further = next x f (further x.end)
