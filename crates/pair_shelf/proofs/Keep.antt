-- What noting one step more, looking one up and dropping some do to the map and to the distinctness of a table.
use Rattle.std.proofs.Common.{◌≡◌, ℕ, zero, suc, ◌+◌, ◌<◌, ◌≤◌, Bool, true, false, cond, not, ◌&&◌, ◌||◌, eqb, List, [], ◌∷◌, ◌++◌, length, take, set, reverse, Some, None, Option, sym, refl, ap, ◌∙◌, ⊎_elim, subst, arith, get_or-set_other}
use mathlib.Core.Path.{fun_ext}
use Rattle.std.specs.List.{fold, find}
use Rattle.std.specs.Option.{option_map, option_or}
use Rattle.std.proofs.lemmas.Bool.{and_from, cases_Bool, and_parts, eqb-true, lt-ltb}
use Rattle.std.proofs.lemmas.List.Folds.{find-append}
use Rattle.std.proofs.lemmas.List.{append-nil, reverse-append, take_more, take_more_set}
use Rattle.std.proofs.lemmas.List.Elements.{filter-append}
use Rattle.std.proofs.lemmas.List.Sums.{fold-append}
use Rattle.sets.specs.Members.{Members}
use Rattle.memory.specs.Steps.{Map, without, nothing}
use Rattle.memory.proofs.Drops.{without_lacks, without_gone, without_stays}
use Rattle.pair_shelf.specs.declared.step.Step.{Step}
use Rattle.pair_shelf.specs.Pairs.{pairs, distinct, kept, no_step, at, new, new_in_turn, with_step}
use Rattle.pair_shelf.specs.Bounded.{New, first_new}

-- one step more
new_from : (f : Map) (s : Step) → New f s → new f s ≡ true
new_from f s k = rw (lt-ltb s.place 64 k.from, lt-ltb s.target 64 k.to, lt-ltb s.class 256 k.class, k.lacks)

turn_push : (f : Map) (xs : List Step) (s : Step) → new_in_turn f xs ≡ true → New (fold with_step f xs) s → new_in_turn f (xs ++ s ∷ []) ≡ true
turn_push f [] s e k = and_from (new f s) true (new_from f s k) refl
turn_push f (x ∷ xs) s e k =
    let a = and_parts (new f x) (new_in_turn (with_step f x) xs) e in
    and_from (new f x) (new_in_turn (with_step f x) (xs ++ s ∷ [])) a.0 (turn_push (with_step f x) xs s a.1 k)

pub distinct_push : (xs : List Step) (s : Step) → distinct xs ≡ true → New (pairs xs) s → distinct (xs ++ s ∷ []) ≡ true
distinct_push xs s e k = turn_push nothing xs s e k

-- the same of a table of which the first n steps are in use
pub pairs_push : (xs : List Step) (n : ℕ) (s : Step) → n < length xs → pairs (take (n + 1) (set xs n s)) ≡ with_step (pairs (take n xs)) s
pairs_push xs n s h = ap pairs (take_more_set xs n s h) ∙ fold-append with_step nothing (take n xs) (s ∷ [])

pub fine_push : (xs : List Step) (n : ℕ) (s : Step) → n < length xs → distinct (take n xs) ≡ true → New (pairs (take n xs)) s → distinct (take (n + 1) (set xs n s)) ≡ true
fine_push xs n s h e k = ap distinct (take_more_set xs n s h) ∙ distinct_push (take n xs) s e k

-- the step at i, which no earlier one has the key of
turn_at : (f : Map) (xs : List Step) (i : ℕ) → new_in_turn f xs ≡ true → i < length xs → New (fold with_step f (take i xs)) (at xs i)
turn_at f [] i e h = absurd (omega arith)
turn_at f (x ∷ xs) zero e h = (first_new f x xs e).0
turn_at f (x ∷ xs) (suc i) e h = turn_at (with_step f x) xs i (first_new f x xs e).1 (omega arith)

pub fine_at : (xs : List Step) (i : ℕ) → distinct xs ≡ true → i < length xs → New (pairs (take i xs)) (at xs i)
fine_at xs i e h = turn_at nothing xs i e h

-- a look-up from behind
abbrev found : Option Step → Option ℕ → Option ℕ
found None d = d
found (Some s) d = Some s.target

abbrev keyed : ℕ → ℕ → Step → Bool
keyed p c s = eqb p s.place && eqb c s.class

found_last : (o : Option Step) (b : Bool) (s : Step) (d : Option ℕ) → found (option_or o (cond b (Some s) None)) d ≡ found o (cond b (Some s.target) d)
found_last None true s d = refl
found_last None false s d = refl
found_last (Some x) b s d = refl

fold_look_up : (f : Map) (xs : List Step) (p c : ℕ) → found (find (keyed p c) (reverse xs)) (f p c) ≡ fold with_step f xs p c
fold_look_up f [] p c = refl
fold_look_up f (x ∷ xs) p c =
    ap (λ ys. found (find (keyed p c) ys) (f p c)) (reverse-append (x ∷ []) xs)
    ∙ ap (λ o. found o (f p c)) (find-append (keyed p c) (reverse xs) (x ∷ []))
    ∙ found_last (find (keyed p c) (reverse xs)) (keyed p c x) x (f p c)
    ∙ fold_look_up (with_step f x) xs p c

pub pairs_look_up : (xs : List Step) (p c : ℕ) → option_map (λ s. s.target) (find (λ s. eqb p s.place && eqb c s.class) (reverse xs)) ≡ pairs xs p c
pairs_look_up xs p c = mapped (find (keyed p c) (reverse xs)) ∙ fold_look_up nothing xs p c
  where
    mapped : (o : Option Step) → option_map (λ s. s.target) o ≡ found o None
    mapped None = refl
    mapped (Some s) = refl

-- dropping
kept_step : (f : Map) (m : Members) (s : Step) → (m s.place || m s.target) ≡ false → with_step (without f m) s ≡ without (with_step f s) m
kept_step f m s a =
    fun_ext
    (λ q. fun_ext
    (λ d.
    ⊎_elim
    (λ (h : (eqb q s.place && eqb d s.class) ≡ true).
    let e : q ≡ s.place = eqb-true q s.place (and_parts (eqb q s.place) (eqb d s.class) h).0 in
    ap (λ b. cond b (Some s.target) (without f m q d)) h
    ∙ sym (without_stays (with_step f s) m q d s.target (ap (λ b. cond b (Some s.target) (f q d)) h) (ap (λ x. m x || m s.target) e ∙ a)))
    (λ (h : (eqb q s.place && eqb d s.class) ≡ false). rw h)
    (cases_Bool (eqb q s.place && eqb d s.class))))

gone_step : (f : Map) (m : Members) (s : Step) → (m s.place || m s.target) ≡ true → f s.place s.class ≡ None → without f m ≡ without (with_step f s) m
gone_step f m s a lacks =
    fun_ext
    (λ q. fun_ext
    (λ d.
    ⊎_elim
    (λ (h : (eqb q s.place && eqb d s.class) ≡ true).
    let k = and_parts (eqb q s.place) (eqb d s.class) h in
    let e : q ≡ s.place = eqb-true q s.place k.0 in
    let o : f q d ≡ None = ap (λ x. f x d) e ∙ ap (f s.place) (eqb-true d s.class k.1) ∙ lacks in
    without_lacks f m q d o
    ∙ sym (without_gone (with_step f s) m q d s.target (ap (λ b. cond b (Some s.target) (f q d)) h) (ap (λ x. m x || m s.target) e ∙ a)))
    (λ (h : (eqb q s.place && eqb d s.class) ≡ false). rw h)
    (cases_Bool (eqb q s.place && eqb d s.class))))

new_without : (f : Map) (m : Members) (s : Step) → New f s → New (without f m) s
new_without f m s k = record {
  from = k.from;
  to = k.to;
  class = k.class;
  lacks = without_lacks f m s.place s.class k.lacks;
}

record Keeps (f : Map) (m : Members) (xs ys : List Step) : Type 0 where
  pub map : fold with_step (without f m) ys ≡ without (fold with_step f xs) m
  pub fine : new_in_turn (without f m) ys ≡ true

keeps : (f : Map) (m : Members) (xs : List Step) → new_in_turn f xs ≡ true → Keeps f m xs (kept m xs)
keeps f m [] e = record { map = refl; fine = refl }
keeps f m (s ∷ xs) e =
    let a = first_new f s xs e in
    let r : Keeps (with_step f s) m xs (kept m xs) = keeps (with_step f s) m xs a.1 in
    ⊎_elim
    (λ (h : (m s.place || m s.target) ≡ true).
    let g : without f m ≡ without (with_step f s) m = gone_step f m s h a.0.lacks in
    rw h (record { map = ap (λ g. fold with_step g (kept m xs)) g ∙ r.map; fine = ap (λ g. new_in_turn g (kept m xs)) g ∙ r.fine }))
    (λ (h : (m s.place || m s.target) ≡ false).
    let g : with_step (without f m) s ≡ without (with_step f s) m = kept_step f m s h in
    rw h (record {
      map = ap (λ g. fold with_step g (kept m xs)) g ∙ r.map;
      fine = and_from (new (without f m) s) (new_in_turn (with_step (without f m) s) (kept m xs)) (new_from (without f m) s (new_without f m s a.0)) (ap (λ g. new_in_turn g (kept m xs)) g ∙ r.fine);
    }))
    (cases_Bool (m s.place || m s.target))

nothing_without : (m : Members) → without nothing m ≡ nothing
nothing_without m = fun_ext (λ q. fun_ext (λ d. without_lacks nothing m q d refl))

pub pairs_kept : (m : Members) (xs : List Step) → distinct xs ≡ true → pairs (kept m xs) ≡ without (pairs xs) m
pairs_kept m xs e = ap (λ f. fold with_step f (kept m xs)) (sym (nothing_without m)) ∙ (keeps nothing m xs e).map

pub distinct_kept : (m : Members) (xs : List Step) → distinct xs ≡ true → distinct (kept m xs) ≡ true
distinct_kept m xs e = ap (λ f. new_in_turn f (kept m xs)) (sym (nothing_without m)) ∙ (keeps nothing m xs e).fine

-- the sweep over a table: the first n are those kept of the first i, and from i on all stand as they did
pub record Sweep (old : List Step) (m : Members) (i : ℕ) (xs : List Step) (n : ℕ) : Type 0 where
  pub low : n ≤ i
  pub front : take n xs ≡ kept m (take i old)
  pub rest : (j : ℕ) → i ≤ j → at xs j ≡ at old j

pub sweep_none : (old : List Step) (m : Members) → Sweep old m 0 old 0
sweep_none old m = record { low = omega arith; front = refl; rest = λ j _. refl }

-- what is kept of one step more
one_more : (old : List Step) (m : Members) (i : ℕ) → i < length old → kept m (take (i + 1) old) ≡ kept m (take i old) ++ kept m (at old i ∷ [])
one_more old m i h = ap (kept m) (take_more old i no_step h) ∙ filter-append (λ s. not (m s.place || m s.target)) (take i old) (at old i ∷ [])

one_kept : (m : Members) (s : Step) → (m s.place || m s.target) ≡ false → kept m (s ∷ []) ≡ s ∷ []
one_kept m s e = rw e

one_gone : (m : Members) (s : Step) → (m s.place || m s.target) ≡ true → kept m (s ∷ []) ≡ []
one_gone m s e = rw e

pub sweep_kept : (old xs : List Step) (m : Members) (i n : ℕ) → Sweep old m i xs n → i < length old → i < length xs → (m (at xs i).place || m (at xs i).target) ≡ false → Sweep old m (i + 1) (set xs n (at xs i)) (n + 1)
sweep_kept old xs m i n t ho hx a =
    let s : at xs i ≡ at old i = t.rest i (omega arith) in
    let b : (m (at old i).place || m (at old i).target) ≡ false = ap (λ y. m y.place || m y.target) (sym s) ∙ a in
    record {
      low = omega (arith, t.low);
      front = take_more_set xs n (at xs i) (omega (arith, t.low))
          ∙ ap (λ y. take n xs ++ y ∷ []) s
          ∙ ap (λ ys. ys ++ at old i ∷ []) t.front
          ∙ ap (λ ys. kept m (take i old) ++ ys) (sym (one_kept m (at old i) b))
          ∙ sym (one_more old m i ho);
      rest = λ j (q : i + 1 ≤ j). get_or-set_other xs n j (at xs i) no_step (λ (e : j ≡ n). omega (arith, t.low)) ∙ t.rest j (omega arith);
    }

pub sweep_gone : (old xs : List Step) (m : Members) (i n : ℕ) → Sweep old m i xs n → i < length old → (m (at xs i).place || m (at xs i).target) ≡ true → Sweep old m (i + 1) xs n
sweep_gone old xs m i n t ho a =
    let s : at xs i ≡ at old i = t.rest i (omega arith) in
    let b : (m (at old i).place || m (at old i).target) ≡ true = ap (λ y. m y.place || m y.target) (sym s) ∙ a in
    record {
      low = omega (arith, t.low);
      front = t.front
          ∙ sym (append-nil (kept m (take i old)))
          ∙ ap (λ ys. kept m (take i old) ++ ys) (sym (one_gone m (at old i) b))
          ∙ sym (one_more old m i ho);
      rest = λ j (q : i + 1 ≤ j). t.rest j (omega arith);
    }

pub carry : (P : List Step → ℕ → Type 0) (bs bs' : List Step) (a a' : ℕ) → bs' ≡ bs → a' ≡ a → P bs a → P bs' a'
carry P bs bs' a a' e f x = subst (λ (y : List Step). P y a') (sym e) (subst (λ (b : ℕ). P bs b) (sym f) x)
