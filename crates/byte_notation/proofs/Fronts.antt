-- Lists that begin with a front, and the classes among them.
use Rattle.std.proofs.Common.{◌≡◌, ℕ, ◌+◌, ◌-◌, ◌<◌, ◌≤◌, Bool, true, false, cond, ◌&&◌, eqb, List, [], ◌∷◌, ◌++◌, length, get_or, take, drop, Some, None, Option, codes, sym, refl, ap, ◌∙◌, ⊎_elim, option_map, eq-eqb, ne_eqb}
use lib.Pointwise.{pointwise}
use Rattle.std.proofs.lemmas.Bool.{cases_Bool, eqb-true, eqb-false}
use Rattle.std.proofs.lemmas.List.{at_drop_more, at_drop_all, take_rest, drop-drop}
use Rattle.byte_notation.specs.Classes.{names, starts, spelled, class_from, named_from, name_of, passed, class_at, class_named}

and_cond : (b x : Bool) → (b && x) ≡ cond b x false
and_cond true x = refl
and_cond false x = refl

-- as the library compares slices
pub stripped : (ns ts : List ℕ) → pointwise eqb (take (length ns) ts) ns ≡ starts ns ts
stripped [] ts = refl
stripped (n ∷ ns) [] = refl
stripped (n ∷ ns) (t ∷ ts) = ap (λ x. eqb t n && x) (stripped ns ts) ∙ and_cond (eqb t n) (starts ns ts)

flip : (a b : ℕ) → eqb a b ≡ eqb b a
flip a b = ⊎_elim (λ (e : eqb b a ≡ true). eq-eqb a b (sym (eqb-true b a e)) ∙ sym e) (λ (e : eqb b a ≡ false). ne_eqb a b (λ k. eqb-false b a e (sym k)) ∙ sym e) (cases_Bool (eqb b a))

pub compared : (ns ts : List ℕ) → pointwise eqb ns (take (length ns) ts) ≡ starts ns ts
compared [] ts = refl
compared (n ∷ ns) [] = refl
compared (n ∷ ns) (t ∷ ts) = (λ i. flip n t i && compared ns ts i) ∙ and_cond (eqb t n) (starts ns ts)

under : (b y z : Bool) → cond b (y && z) false ≡ (cond b y false && z)
under true y z = refl
under false y z = refl

-- a front of two parts
pub starts_append : (ms ns ts : List ℕ) → starts (ms ++ ns) ts ≡ (starts ms ts && starts ns (drop (length ms) ts))
starts_append [] ns ts = refl
starts_append (m ∷ ms) ns [] = refl
starts_append (m ∷ ms) ns (t ∷ ts) =
    ap (λ x. cond (eqb t m) x false) (starts_append ms ns ts) ∙ under (eqb t m) (starts ms ts) (starts ns (drop (length ms) ts))

-- a class begins with [: and goes on with its name and :]
spelled_starts : (n ts : List ℕ) → starts (spelled n) ts ≡ (starts (codes "[:") ts && starts (n ++ codes ":]") (drop 2 ts))
spelled_starts n ts = starts_append (codes "[:") (n ++ codes ":]") ts

named_starts : (n ts : List ℕ) (b : Bool) → starts (codes "[:") ts ≡ true → starts (n ++ codes ":]") (drop 2 ts) ≡ b → starts (spelled n) ts ≡ b
named_starts n ts b o e = spelled_starts n ts ∙ (λ j. o j && e j)

-- without [: no class
pub class_unopened : (i : ℕ) (ns : List (List ℕ)) (ts : List ℕ) → starts (codes "[:") ts ≡ false → class_from i ns ts ≡ None
class_unopened i [] ts o = refl
class_unopened i (n ∷ ns) ts o =
    ap (λ b. cond b (Some i) (class_from (i + 1) ns ts)) (spelled_starts n ts ∙ ap (λ b. b && starts (n ++ codes ":]") (drop 2 ts)) o)
    ∙ class_unopened (i + 1) ns ts o

-- behind [: the name decides
pub class_opened : (i : ℕ) (ns : List (List ℕ)) (ts : List ℕ) → starts (codes "[:") ts ≡ true → class_from i ns ts ≡ named_from i ns (drop 2 ts)
class_opened i [] ts o = refl
class_opened i (n ∷ ns) ts o =
    (λ j. cond (named_starts n ts _ o refl j) (Some i) (class_opened (i + 1) ns ts o j))

-- the part of a text from a place on, of which the reader asks
pub opened_at : (ts : List ℕ) (p : ℕ) (r b : Bool) → r ≡ pointwise eqb (codes "[:") (take 2 (take (length ts - p) (drop p ts))) → r ≡ b → starts (codes "[:") (drop p ts) ≡ b
opened_at ts p r b e f =
    ap (starts (codes "[:")) (sym (take_rest ts p)) ∙ sym (compared (codes "[:") (take (length ts - p) (drop p ts))) ∙ sym e ∙ f

pub class_left : (ts : List ℕ) (p : ℕ) → starts (codes "[:") (drop p ts) ≡ true → class_at (drop p ts) ≡ class_named (take (length ts - (p + 2)) (drop (p + 2) ts))
class_left ts p o = class_opened 0 names (drop p ts) o ∙ ap class_named (drop-drop 2 p ts ∙ sym (take_rest ts (p + 2)))

-- the name is the i-th, or stands further on, or there is none
pub name_here : (all : List (List ℕ)) (ts n : List ℕ) (i : ℕ) → i < length all → starts (n ++ codes ":]") ts ≡ true → n ≡ get_or all i [] → named_from i (drop i all) ts ≡ Some i
name_here all ts n i h o e =
    at_drop_more (λ l. named_from i l ts) all i [] h
    ∙ ap (λ b. cond b (Some i) (named_from (i + 1) (drop (i + 1) all) ts)) (ap (λ l. starts (l ++ codes ":]") ts) (sym e) ∙ o)

pub name_further : (all : List (List ℕ)) (ts n : List ℕ) (i : ℕ) → i < length all → starts (n ++ codes ":]") ts ≡ false → n ≡ get_or all i []
    → named_from i (drop i all) ts ≡ named_from (i + 1) (drop (i + 1) all) ts
name_further all ts n i h o e =
    at_drop_more (λ l. named_from i l ts) all i [] h
    ∙ ap (λ b. cond b (Some i) (named_from (i + 1) (drop (i + 1) all) ts)) (ap (λ l. starts (l ++ codes ":]") ts) (sym e) ∙ o)

pub name_none : (all : List (List ℕ)) (ts : List ℕ) (i : ℕ) → length all ≤ i → named_from i (drop i all) ts ≡ None
name_none all ts i h = at_drop_all (λ l. named_from i l ts) all i h

-- the place behind a class with a name, or without one
pub passes : (o : Option ℕ) (n : List ℕ) (p : ℕ) → Some n ≡ option_map name_of o → passed o p ≡ p + (length n + 4)
passes (Some i) n p e = let k : name_of i ≡ n = cc in ap (λ l. p + (length l + 4)) k
passes None n p e = cc

pub none_found : {A : Type 0} (f : ℕ → A) (o : Option ℕ) → None ≡ option_map f o → o ≡ None
none_found f (Some i) e = cc
none_found f None e = refl

pub eight_names : length names ≡ 8
unfolding names
eight_names = refl
