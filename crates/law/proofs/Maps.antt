-- What is left of a map after a drop, and what a noted step adds.
use Rattle.std.proofs.Common.{◌≡◌, ℕ, true, false, cond, ◌⊎◌, Some, None, Option, sym, refl, ap, ◌∙◌, inl, inr, ⊎_elim, arith}
use Rattle.std.proofs.lemmas.Bool.{cases_Bool, cases_eq, eq-eqb}
use Rattle.sets.specs.Members.{Members}
use Rattle.memory.specs.Steps.{Map, without, unless, noted}
use Rattle.memory.proofs.Sizes.{noted_other}

pub some_not : {A : Type 0} (t : A) → None ≡ Some t → ⊥
some_not t e = let z : ◌≡◌ {A = ℕ} 0 1 = cc in omega arith

pub some_same : {A : Type 0} (s t : A) → Some s ≡ Some t → s ≡ t
some_same s t e = cc

-- a step that is left was there, and neither of its places was dropped
pub record Left (f : Map) (x : Members) (p c t : ℕ) : Type 0 where
  pub was : f p c ≡ Some t
  pub from : x p ≡ false
  pub to : x t ≡ false

unless_some : (x : Members) (o : Option ℕ) (t : ℕ) → unless x o ≡ Some t → (o ≡ Some t) × (x t ≡ false)
unless_some x None t e = absurd (some_not t e)
unless_some x (Some k) t e =
    ⊎_elim
    (λ (h : x k ≡ true). absurd (some_not t (sym (ap (λ b. cond b None (Some k)) h) ∙ e)))
    (λ (h : x k ≡ false). let s : Some k ≡ Some t = sym (ap (λ b. cond b None (Some k)) h) ∙ e in let q : k ≡ t = cc in (s, ap x (sym q) ∙ h))
    (cases_Bool (x k))

pub left : (f : Map) (x : Members) (p c t : ℕ) → without f x p c ≡ Some t → Left f x p c t
left f x p c t e =
    ⊎_elim
    (λ (h : x p ≡ true). absurd (some_not t (sym (ap (λ b. cond b None (unless x (f p c))) h) ∙ e)))
    (λ (h : x p ≡ false).
    let u : unless x (f p c) ≡ Some t = sym (ap (λ b. cond b None (unless x (f p c))) h) ∙ e in
    record { was = (unless_some x (f p c) t u).0; from = h; to = (unless_some x (f p c) t u).1 })
    (cases_Bool (x p))

-- a step of a map with one step more: that one, or it was there
pub record Other (f : Map) (p c q d u : ℕ) : Type 0 where
  pub was : f q d ≡ Some u
  pub apart : q ≡ p → d ≡ c → ⊥

pub noted_cases : (f : Map) (p c t q d u : ℕ) → noted f p c t q d ≡ Some u → ((q ≡ p) × (d ≡ c) × (u ≡ t)) ⊎ Other f p c q d u
noted_cases f p c t q d u e =
    ⊎_elim
    (λ (a : q ≡ p).
    ⊎_elim
    (λ (b : d ≡ c).
    let s : Some t ≡ Some u = sym (rw (eq-eqb q p a, eq-eqb d c b) refl) ∙ e in
    inl (a, b, sym (some_same t u s)))
    (λ (b : d ≡ c → ⊥).
    let ne : q ≡ p → d ≡ c → ⊥ = λ _. b in
    inr (record { was = noted_other f p c t q d ne ∙ e; apart = ne }))
    (cases_eq d c))
    (λ (a : q ≡ p → ⊥).
    let ne : q ≡ p → d ≡ c → ⊥ = λ x _. a x in
    inr (record { was = noted_other f p c t q d ne ∙ e; apart = ne }))
    (cases_eq q p)

pub noted_here : (f : Map) (p c t : ℕ) → noted f p c t p c ≡ Some t
noted_here f p c t = rw (eq-eqb p p refl, eq-eqb c c refl)
