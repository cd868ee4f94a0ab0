-- The pairs keep a shelf's bounds. The proof stands here and not among the proofs, because the ghost member `bounds` cites it.
use Rattle.std.specs.Prelude.{◌≡◌, ℕ, suc, ◌+◌, ◌<◌, ◌≤◌, true, false, cond, ◌&&◌, List, [], ◌∷◌, ◌++◌, length, take, Some, None, ◌==◌, nat_lt, refl}
use Rattle.std.specs.List.{fold}
use Rattle.std.proofs.Common.{sym, ap, ◌∙◌, ⊎_elim, length-take, length-take-le, arith}
use Rattle.std.proofs.lemmas.Bool.{and_from, and_parts, ltb-true, eqb-true, cases_Bool}
use Rattle.std.proofs.lemmas.List.Sums.{fold-append}
use Rattle.std.proofs.Math.Seq.{take-suc}
use Rattle.memory.specs.Steps.{Map, noted, size, Bounds, Within, nothing}
use Rattle.memory.proofs.Sizes.{size_noted, size_nothing, none_is}
use Rattle.pair_shelf.specs.declared.step.Step.{Step}
use Rattle.pair_shelf.specs.Pairs.{pairs, distinct, no_step, at, new, new_in_turn, with_step}

pub record New (f : Map) (s : Step) : Type 0 where
  pub from : s.place < 64
  pub to : s.target < 64
  pub class : s.class < 256
  pub lacks : f s.place s.class ≡ None

pub new_parts : (f : Map) (s : Step) → new f s ≡ true → New f s
new_parts f s e =
    let a = and_parts (nat_lt s.place 64) _ e in
    let b = and_parts (nat_lt s.target 64) _ a.1 in
    let d = and_parts (nat_lt s.class 256) _ b.1 in
    record { from = ltb-true s.place 64 a.0; to = ltb-true s.target 64 b.0; class = ltb-true s.class 256 d.0; lacks = none_is (f s.place s.class) d.1 }

-- the first step is new, and the others are on top of it
pub first_new : (f : Map) (s : Step) (xs : List Step) → new_in_turn f (s ∷ xs) ≡ true → New f s × (new_in_turn (with_step f s) xs ≡ true)
first_new f s xs e = let a = and_parts (new f s) (new_in_turn (with_step f s) xs) e in (new_parts f s a.0, a.1)

fold_size : (f : Map) (xs : List Step) → new_in_turn f xs ≡ true → size 64 (fold with_step f xs) ≡ size 64 f + length xs
fold_size f [] e = omega arith
fold_size f (s ∷ xs) e =
    let a = first_new f s xs e in
    omega (arith, fold_size (with_step f s) xs a.1, size_noted 64 f s.place s.class s.target a.0.from a.0.class a.0.lacks)

pub pairs_size : (xs : List Step) → distinct xs ≡ true → size 64 (pairs xs) ≡ length xs
pairs_size xs e = omega (arith, fold_size nothing xs e, size_nothing 64)

noted_within : (f : Map) (s : Step) → New f s → Within 64 f → Within 64 (with_step f s)
noted_within f s k w p c t e =
    ⊎_elim
    (λ (h : (p == s.place && c == s.class) ≡ true).
    let a = and_parts (p == s.place) (c == s.class) h in
    let q : Some s.target ≡ Some t = sym (ap (λ x. cond x (Some s.target) (f p c)) h) ∙ e in
    let z : s.target ≡ t = cc in
    let x : p ≡ s.place = eqb-true p s.place a.0 in
    let y : c ≡ s.class = eqb-true c s.class a.1 in
    (omega (arith, k.from), omega (arith, k.class), omega (arith, k.to)))
    (λ (h : (p == s.place && c == s.class) ≡ false). w p c t (sym (ap (λ x. cond x (Some s.target) (f p c)) h) ∙ e))
    (cases_Bool (p == s.place && c == s.class))

fold_within : (f : Map) (xs : List Step) → new_in_turn f xs ≡ true → Within 64 f → Within 64 (fold with_step f xs)
fold_within f [] e w = w
fold_within f (s ∷ xs) e w = let a = first_new f s xs e in fold_within (with_step f s) xs a.1 (noted_within f s a.0 w)

nothing_within : Within 64 nothing
nothing_within p c t h = cc

-- whatever the length of the table
pub pairs_within : (xs : List Step) → distinct xs ≡ true → Within 64 (pairs xs)
pairs_within xs e = fold_within nothing xs e nothing_within

pub pair_bounds : (xs : List Step) → length xs ≤ 512 → distinct xs ≡ true → Bounds 64 512 (pairs xs)
pair_bounds xs h e = record {
  few = omega arith;
  some = λ _. omega arith;
  within = pairs_within xs e;
  fits = omega (arith, pairs_size xs e);
}

-- the same of a table of which the first n steps are in use
pub pairs_zero : (xs : List Step) → pairs (take 0 xs) ≡ nothing
pairs_zero xs = refl

pub pairs_suc : (xs : List Step) (n : ℕ) → n < length xs → pairs (take (suc n) xs) ≡ noted (pairs (take n xs)) (at xs n).place (at xs n).class (at xs n).target
pairs_suc xs n h = ap pairs (take-suc xs n no_step h) ∙ fold-append with_step nothing (take n xs) (at xs n ∷ [])

turn_split : (f : Map) (xs ys : List Step) → new_in_turn f (xs ++ ys) ≡ true → (new_in_turn f xs ≡ true) × (new_in_turn (fold with_step f xs) ys ≡ true)
turn_split f [] ys e = (refl, e)
turn_split f (x ∷ xs) ys e =
    let a = and_parts (new f x) (new_in_turn (with_step f x) (xs ++ ys)) e in
    let b = turn_split (with_step f x) xs ys a.1 in
    (and_from (new f x) (new_in_turn (with_step f x) xs) a.0 b.0, b.1)

pub fine_last : (xs : List Step) (n : ℕ) → n < length xs → distinct (take (suc n) xs) ≡ true → New (pairs (take n xs)) (at xs n) × (distinct (take n xs) ≡ true)
fine_last xs n h e =
    let a = turn_split nothing (take n xs) (at xs n ∷ []) (sym (ap distinct (take-suc xs n no_step h)) ∙ e) in
    ((first_new (pairs (take n xs)) (at xs n) [] a.1).0, a.0)

pub table_size : (xs : List Step) (n : ℕ) → n ≤ length xs → distinct (take n xs) ≡ true → size 64 (pairs (take n xs)) ≡ n
table_size xs n h e = omega (arith, pairs_size (take n xs) e, length-take-le n xs h)

pub table_bounds : (xs : List Step) (n : ℕ) → n ≤ 512 → distinct (take n xs) ≡ true → Bounds 64 512 (pairs (take n xs))
table_bounds xs n h e = pair_bounds (take n xs) (omega (arith, length-take n xs)) e
