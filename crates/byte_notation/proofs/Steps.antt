-- One step of the bracket reader after another.
use Rattle.std.proofs.Common.{◌≡◌, ℕ, zero, suc, ◌+◌, ◌-◌, ◌<◌, ◌≤◌, Bool, true, false, cond, eqb, ltb, List, [], ◌∷◌, length, get_or, drop, Some, None, Ok, Err, Result, sym, refl, ap, ◌∙◌, subst, add-zero, arith}
use Rattle.std.proofs.lemmas.List.{drop-drop, drop_more, at_drop_more}
use Rattle.std.proofs.lemmas.Bool.{le-ltb}
use Rattle.refusal.specs.declared.Cause.TheVariants.{ReversedRange}
use Rattle.refusal.specs.declared.Refusal.{Refusal}
use Rattle.symbols.specs.declared.ByteTest.{ByteTest}
use Rattle.byte_notation.specs.declared.brackets.State.{State}
use Rattle.byte_notation.specs.declared.brackets.State.TheVariants.{NoMember, Members, Closed}
use Rattle.byte_notation.specs.Classes.{class_at, span}
use Rattle.byte_notation.specs.Brackets.{Member, Class, Range, Byte, after, range_end, ranged, class_else, member_at, width, with_member, with_read, taken, behind, proceed, members}

-- a range, which is no class, takes three bytes
pub range_behind : (p q : ℕ) (ts left : List ℕ) (high : ℕ) → q < length ts → class_at (drop q ts) ≡ None → left ≡ drop q ts → Some high ≡ range_end (drop 1 left) → get_or left 0 0 ≤ high
    → behind (member_at p (get_or ts q 0) (drop (q + 1) ts)) q ≡ q + 3
range_behind p q ts left high h n l e le =
    let b = get_or ts q 0 in
    let rest = drop (q + 1) ts in
    let split : left ≡ b ∷ rest = l ∙ drop_more ts q 0 h in
    let ends : range_end rest ≡ Some high = sym (e ∙ ap (λ x. range_end (drop 1 x)) split) in
    let low : ltb high b ≡ false = le-ltb high b (subst (λ x. get_or x 0 0 ≤ high) split le) in
    let none : class_at (b ∷ rest) ≡ None = ap class_at (sym (drop_more ts q 0 h)) ∙ n in
    ap (λ m. behind m q)
    ((λ i. class_else (none i) (ranged p b (ends i)))
    ∙ ap (λ c. cond c (Err (record { cause = ReversedRange; place = p })) (Ok (Range (span b high)))) low)

pub width_positive : (m : Member) → 0 < width m
width_positive (Class c) = omega arith
width_positive (Range r) = omega arith
width_positive (Byte b) = omega arith

-- the bytes of what was read before are passed
pub skip : (o : ℕ) (s : State) (t : ByteTest) (p k : ℕ) (bs : List ℕ) → members o s t p k bs ≡ members o s t (p + k) 0 (drop k bs)
skip o s t p zero bs = ap (λ n. members o s t n 0 bs) (sym (add-zero p))
skip o s t p (suc k) [] = refl
skip o s t p (suc k) (b ∷ bs) =
    let e : p + 1 + k ≡ p + suc k = omega arith in
    skip o s t (p + 1) k bs ∙ ap (λ n. members o s t n 0 (drop k bs)) e

-- the state is closed, or members are read
pub read_or_closed : (s : State) (b : ℕ) → (after s b ≡ Closed → ⊥) → after s b ≡ Members
read_or_closed NoMember b d = refl
read_or_closed Members b d = cases (eqb b 93) d
  where
    cases : (e : Bool) → (cond e Closed Members ≡ Closed → ⊥) → cond e Closed Members ≡ Members
    cases true d = absurd (d refl)
    cases false d = refl
read_or_closed Closed b d = absurd (d refl)

-- a member is read at p, where the q-th byte stands
module _ (o : ℕ) (s : State) (t : ByteTest) (p q : ℕ) (ts : List ℕ) (h : q < length ts) (a : after s (get_or ts q 0) ≡ Members) where
  goes_on_lem : (r : Result Member Refusal) → r ≡ member_at p (get_or ts q 0) (drop (q + 1) ts)
      → members o s t p 0 (drop q ts) ≡ proceed Members (record { test = t; width = p + 1 - o }) r (λ m. members o Members (with_member t m) (p + 1) (width m - 1) (drop (q + 1) ts))
  goes_on_lem r f =
      at_drop_more (members o s t p 0) ts q 0 h
      ∙ (λ i. proceed (a i) (record { test = t; width = p + 1 - o }) (sym f i) (λ m. members o Members (with_member t m) (p + 1) (width m - 1) (drop (q + 1) ts)))

  one_more : (m : Member) → Ok m ≡ member_at p (get_or ts q 0) (drop (q + 1) ts)
      → members o s t p 0 (drop q ts) ≡ members o Members (with_member t m) (p + width m) 0 (drop (q + width m) ts)
  one_more m f =
      let w : 0 < width m = width_positive m in
      let e : p + 1 + (width m - 1) ≡ p + width m = omega arith in
      let k : q + 1 + (width m - 1) ≡ q + width m = omega arith in
      goes_on_lem (Ok m) f
      ∙ skip o Members (with_member t m) (p + 1) (width m - 1) (drop (q + 1) ts)
      ∙ ap (members o Members (with_member t m) (p + 1 + (width m - 1)) 0) (drop-drop (width m - 1) (q + 1) ts)
      ∙ (λ i. members o Members (with_member t m) (e i) 0 (drop (k i) ts))

  pub taken_more : (r : Result Member Refusal) → r ≡ member_at p (get_or ts q 0) (drop (q + 1) ts) → Ok tt ≡ taken r
      → members o s t p 0 (drop q ts) ≡ members o Members (with_read t r) (behind r p) 0 (drop (behind r q) ts)
  taken_more (Ok m) f e = one_more m f
  taken_more (Err x) f e = cc

  pub taken_none : (r : Result Member Refusal) → r ≡ member_at p (get_or ts q 0) (drop (q + 1) ts) → (x : Refusal) → Err x ≡ taken r → members o s t p 0 (drop q ts) ≡ Err x
  taken_none (Ok m) f x e = cc
  taken_none (Err y) f x e = goes_on_lem (Err y) f ∙ (let k : y ≡ x = cc in ap Err k)

pub behind_more : (r : Result Member Refusal) (q : ℕ) → q ≤ behind r q
behind_more (Ok m) q = omega arith
behind_more (Err e) q = omega arith

pub behind_sum : (r : Result Member Refusal) (p q : ℕ) → behind r (p + q) ≡ p + behind r q
behind_sum (Ok m) p q = omega arith
behind_sum (Err e) p q = refl
