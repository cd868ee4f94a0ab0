-- Which class stands at the front of a text.
use Rattle.std.proofs.Common.{◌≡◌, ℕ, zero, suc, ◌+◌, ◌<◌, Bool, true, false, cond, eqb, List, [], ◌∷◌, ◌++◌, length, get_or, Some, None, Option, sym, refl, ap, ◌∙◌, subst, arith}
use Rattle.std.proofs.lemmas.Bool.{eqb-true}
use Rattle.byte_notation.specs.Atoms.{NoClass}
use Rattle.byte_notation.specs.Classes.{names, starts, spelled, class_from, class_at}
use Rattle.byte_notation.proofs.Eight.{eight}
use Rattle.byte_notation.proofs.Fronts.{eight_names}

-- what a text begins with, and what stands behind
front : (fs ts : List ℕ) → starts fs ts ≡ true → (behind : List ℕ) × (ts ≡ fs ++ behind)
front [] ts e = (ts, refl)
front (f ∷ fs) [] e = cc
front (f ∷ fs) (t ∷ ts) e = at (eqb t f) refl e (front fs ts)
  where
    at : (b : Bool) → eqb t f ≡ b → cond b (starts fs ts) false ≡ true → (starts fs ts ≡ true → (behind : List ℕ) × (ts ≡ fs ++ behind)) → (behind : List ℕ) × (t ∷ ts ≡ f ∷ fs ++ behind)
    at true k e go = let r = go e in (r.0, λ i. eqb-true t f k i ∷ r.1 i)
    at false k e go = cc

-- the class that is found is the k-th of the names
found : (j i : ℕ) (ns : List (List ℕ)) (ts : List ℕ) → class_from j ns ts ≡ Some i → (k : ℕ) × (i ≡ j + k) × (k < length ns) × (starts (spelled (get_or ns k [])) ts ≡ true)
found j i [] ts e = cc
found j i (n ∷ ns) ts e = at (starts (spelled n) ts) refl e (found (j + 1) i ns ts)
  where
    at : (b : Bool) → starts (spelled n) ts ≡ b → cond b (Some j) (class_from (j + 1) ns ts) ≡ Some i
        → (class_from (j + 1) ns ts ≡ Some i → (k : ℕ) × (i ≡ j + 1 + k) × (k < length ns) × (starts (spelled (get_or ns k [])) ts ≡ true))
        → (k : ℕ) × (i ≡ j + k) × (k < suc (length ns)) × (starts (spelled (get_or (n ∷ ns) k [])) ts ≡ true)
    at true h e go = (zero, (let z : j ≡ i = cc in omega arith), omega arith, h)
    at false h e go = let r = go e in let p = r.1 in let q = r.2 in (suc r.0, omega arith, omega arith, r.3)

pub class_sound : (ts : List ℕ) (i : ℕ) → class_at ts ≡ Some i → (behind : List ℕ) × (i < 8) × (ts ≡ spelled (get_or names i []) ++ behind)
class_sound ts i e =
    let r = found 0 i names ts e in
    let k : i ≡ r.0 = let p = r.1 in omega arith in
    let n : i < 8 = let q = r.2 in omega (arith, eight_names) in
    let s : starts (spelled (get_or names i [])) ts ≡ true = ap (λ x. starts (spelled (get_or names x [])) ts) k ∙ r.3 in
    let f = front (spelled (get_or names i [])) ts s in
    (f.0, n, f.1)

-- each class is found where it stands
each : (i : ℕ) (behind : List ℕ) → i < 8 → class_at (spelled (get_or names i []) ++ behind) ≡ Some i
unfolding names
each i behind h =
    let P : ℕ → Type 0 = λ n. class_at (spelled (get_or names n []) ++ behind) ≡ Some n in
    eight i h
    (λ e. subst P (sym e) refl)
    (λ e. subst P (sym e) refl)
    (λ e. subst P (sym e) refl)
    (λ e. subst P (sym e) refl)
    (λ e. subst P (sym e) refl)
    (λ e. subst P (sym e) refl)
    (λ e. subst P (sym e) refl)
    (λ e. subst P (sym e) refl)

pub class_complete : (i : ℕ) (behind : List ℕ) → i < 8 → class_at (spelled (get_or names i []) ++ behind) ≡ Some i
class_complete i behind h = each i behind h

pub no_class : (ts : List ℕ) → class_at ts ≡ None → NoClass ts
no_class ts e i behind h s =
    let z : ◌≡◌ {A = Option ℕ} (Some i) None = sym (each i behind h) ∙ ap class_at (sym s) ∙ e in
    cc

pub class_none : (ts : List ℕ) → NoClass ts → class_at ts ≡ None
class_none ts d = at (class_at ts) refl
  where
    at : (o : Option ℕ) → class_at ts ≡ o → o ≡ None
    at None e = refl
    at (Some i) e = let r = class_sound ts i e in absurd (d i r.0 r.1 r.2)
