-- What is counted once.
use Rattle.std.proofs.Common.{◌≡◌, ℕ, ◌+◌, ◌≤◌, Bool, true, false, cond, ◌&&◌, eqb, ◌⊎◌, List, ◌∷◌, length, sym, refl, ap, ◌∙◌, inl, inr, ⊎_elim, arith}
use Rattle.std.proofs.lemmas.Bool.{cases_Bool, both_ways, and_from, eqb-true, eq-eqb}
use Rattle.theory.specs.declared.Direction.{Direction}
use Rattle.theory.specs.declared.Direction.TheVariants.{Ahead, Back}
use Rattle.theory.specs.Reads.{State, Step}
use Rattle.law.specs.Subject.{Subject, Proper}
use Rattle.law.specs.Met.{same_direction, same_state, same_step, among, new}

direction_same : (a b : Direction) → same_direction a b ≡ true → a ≡ b
direction_same Ahead Ahead h = refl
direction_same Ahead Back h = absurd (both_ways false refl h)
direction_same Back Ahead h = absurd (both_ways false refl h)
direction_same Back Back h = refl

same_direction_self : (a : Direction) → same_direction a a ≡ true
same_direction_self Ahead = refl
same_direction_self Back = refl

and_one : (x y : Bool) → (x && y) ≡ true → x ≡ true
and_one true y h = refl
and_one false y h = h

and_two : (x y : Bool) → (x && y) ≡ true → y ≡ true
and_two true y h = h
and_two false y h = absurd (both_ways false refl h)

pub state_of_lem : {States : Type 0} (S R : States) (d e : Direction) → S ≡ R → d ≡ e → ◌≡◌ {A = State States} (record { direction = d; set = S }) (record { direction = e; set = R })
state_of_lem S R d e same way = rw (same, way)

step_of : {States : Type 0} (s t : State States) (c d : ℕ) → s ≡ t → c ≡ d → ◌≡◌ {A = Step States} (record { from = s; class = c }) (record { from = t; class = d })
step_of s t c d e f = rw (e, f)

module _ {Sym States : Type 0} (M : Subject Sym States) (law : Proper M) where
  pub state_same : (a b : State States) → same_state M a b ≡ true → a ≡ b
  state_same a b h =
      state_of_lem a.set b.set a.direction b.direction
      ((law.one a.set b.set).0 (and_two (same_direction a.direction b.direction) (M.same a.set b.set) h))
      (direction_same a.direction b.direction (and_one (same_direction a.direction b.direction) (M.same a.set b.set) h))

  pub same_state_self : (a : State States) → same_state M a a ≡ true
  same_state_self a = and_from (same_direction a.direction a.direction) (M.same a.set a.set) (same_direction_self a.direction) ((law.one a.set a.set).1 refl)

  pub step_same : (a b : Step States) → same_step M a b ≡ true → a ≡ b
  step_same a b h =
      step_of a.from b.from a.class b.class
      (state_same a.from b.from (and_one (same_state M a.from b.from) (eqb a.class b.class) h))
      (eqb-true a.class b.class (and_two (same_state M a.from b.from) (eqb a.class b.class) h))

  pub same_step_self : (a : Step States) → same_step M a a ≡ true
  same_step_self a = and_from (same_state M a.from a.from) (eqb a.class a.class) (same_state_self a.from) (eq-eqb a.class a.class refl)

-- with x, if it is not there
abbrev pub add : {A : Type 0} → (A → A → Bool) → A → List A → List A
add same x seen = cond (among same x seen) seen (x ∷ seen)

module _ {A : Type 0} (same : A → A → Bool) where
  pub add_there : (x : A) (seen : List A) → among same x seen ≡ true → add same x seen ≡ seen
  add_there x seen h = ap (λ b. cond b seen (x ∷ seen)) h

  pub add_new : (x : A) (seen : List A) → among same x seen ≡ false → add same x seen ≡ x ∷ seen
  add_new x seen h = ap (λ b. cond b seen (x ∷ seen)) h

  pub add_more : (x : A) (seen : List A) → length seen ≤ length (add same x seen)
  add_more x seen = elim (among same x seen) as (λ b. length seen ≤ length (cond b seen (x ∷ seen))) [ true ↦ omega arith | false ↦ omega arith ]

  pub among_later : (x y : A) (ys : List A) → among same x ys ≡ true → among same x (y ∷ ys) ≡ true
  among_later x y ys h = elim (same x y) as (λ b. cond b true (among same x ys) ≡ true) [ true ↦ refl | false ↦ h ]

  pub among_here : (x y : A) (ys : List A) → same x y ≡ true → among same x (y ∷ ys) ≡ true
  among_here x y ys h = ap (λ b. cond b true (among same x ys)) h

  pub among_cases : (x y : A) (ys : List A) → among same x (y ∷ ys) ≡ true → (same x y ≡ true) ⊎ (among same x ys ≡ true)
  among_cases x y ys h =
      ⊎_elim (λ (t : same x y ≡ true). inl t) (λ (t : same x y ≡ false). inr (sym (ap (λ b. cond b true (among same x ys)) t) ∙ h)) (cases_Bool (same x y))

  -- what was seen and what is new, together, is the same after each
  pub new_add : (x : A) (seen xs : List A) → length seen + new same seen (x ∷ xs) ≡ length (add same x seen) + new same (add same x seen) xs
  new_add x seen xs =
      elim (among same x seen) as (λ b. length seen + cond b (new same seen xs) (1 + new same (x ∷ seen) xs) ≡ length (cond b seen (x ∷ seen)) + new same (cond b seen (x ∷ seen)) xs)
      [ true ↦ refl | false ↦ omega arith ]
