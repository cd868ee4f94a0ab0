-- What a searcher's fields make of its memory.
use Rattle.std.proofs.Common.{◌≡◌, ℕ, ◌<◌, Bool, true, false, cond, not, ◌&&◌, eqb, ltb, List, length, get_or, set, Some, None, Option, sym, refl, ap, ◌∙◌, subst, ⊎_elim, get_or-set_other, get_or-set_same}
use mathlib.Core.Path.{fun_ext}
use mathlib.Core.Bool.{beq}
use Rattle.std.proofs.lemmas.Bool.{cases_Bool, cases_eq, eq-eqb, ne_eqb, lt-ltb, ltb-true, and_parts, both_ways}
use Rattle.sets.specs.Members.{Members, plus, less, tally}
use Rattle.sets.specs.Lowest.{LowestFree}
use Rattle.sets.specs.Places.{member, PlaceSet}
use Rattle.sets.specs.Positions.{PositionSet}
use Rattle.sets.proofs.Known.{members_low}
use Rattle.memory.specs.Steps.{Map}
use Rattle.memory.specs.declared.shelf.Shelf.{Ghosts as ShelfMeaning}
use Rattle.memory.specs.declared.policy.Policy.{Ghosts as PolicyMeaning}
use Rattle.theory.specs.declared.Direction.{Direction}
use Rattle.theory.specs.declared.Direction.TheVariants.{Ahead, Back}
use Rattle.theory.specs.Reads.{State}
use Rattle.law.specs.Memory.{Memory, taken, held_places}
use Rattle.law.proofs.Maps.{some_not, some_same}
use Rattle.law.proofs.Tally.{tally_same}
use Rattle.automaton.specs.declared.automaton.Automaton.{Ghosts as AutomatonMeaning}
use Rattle.search.specs.declared.scanner.Scanner.{Scanner}
use Rattle.search.specs.Remembered.{heading, backward, no_set, state, lives, memory, marked, Flagged, Kept}

memory_of : (l l' : ℕ → Option (State PositionSet)) (f f' : Map) (t t' : Members) (a a' b b' c c' : ℕ) → l ≡ l' → f ≡ f' → t ≡ t' → a ≡ a' → b ≡ b' → c ≡ c' → ◌≡◌ {A = Memory PositionSet} (record { live = l; known = f; told = t; limit = a; places = b; capacity = c }) (record { live = l'; known = f'; told = t'; limit = a'; places = b'; capacity = c' })
memory_of l l' f f' t t' a a' b b' c c' e1 e2 e3 e4 e5 e6 = rw (e1, e2, e3, e4, e5, e6)

pub same_memory : (m n : Memory PositionSet) → m.live ≡ n.live → m.known ≡ n.known → m.told ≡ n.told → m.limit ≡ n.limit → m.places ≡ n.places → m.capacity ≡ n.capacity → m ≡ n
same_memory m n e1 e2 e3 e4 e5 e6 = memory_of m.live n.live m.known n.known m.told n.told m.limit n.limit m.places n.places m.capacity n.capacity e1 e2 e3 e4 e5 e6

heading_back : (d : Direction) → heading (backward d) ≡ d
heading_back Ahead = refl
heading_back Back = refl

some_at : (l : Bool) (v v' : PositionSet) (b : Bool) (d : Direction) (t : Bool) (o : Option (State PositionSet)) → t ≡ true → l ≡ true → v ≡ v' → b ≡ backward d → cond l (Some (state (heading b) v)) None ≡ cond t (Some (state d v')) o
some_at l v v' b d t o y e f h = rw (y, e, f, h, heading_back d)

as_before : (l l' : Bool) (v v' : PositionSet) (b b' : Bool) (t : Bool) (o : Option (State PositionSet)) → t ≡ false → l ≡ l' → v ≡ v' → b ≡ b' → cond l (Some (state (heading b) v)) None ≡ cond t o (cond l' (Some (state (heading b') v')) None)
as_before l l' v v' b b' t o z e f h = rw (z, e, f, h)

-- one place more, at that place and at the others
plus_here : (f : Members) (p : ℕ) → p < 64 → plus 64 f p p ≡ true
plus_here f p l = rw (lt-ltb p 64 l, eq-eqb p p refl)

plus_other : (f : Members) (p k : ℕ) → p < 64 → (k ≡ p → ⊥) → plus 64 f p k ≡ f k
plus_other f p k l ne = rw (lt-ltb p 64 l, ne_eqb k p ne)

pub lives_put : (live live' back back' : Members) (sets : List PositionSet) (p : ℕ) (v : PositionSet) (b : Bool) (d : Direction) → live' ≡ plus 64 live p → back' ≡ marked back p b → b ≡ backward d → p < 64 → p < length sets → lives live' (set sets p v) back' ≡ (λ k. cond (eqb k p) (Some (state d v)) (lives live sets back k))
lives_put live live' back back' sets p v b d el eb e l m =
    fun_ext
    (λ k.
    ⊎_elim
    (λ (h : k ≡ p).
    some_at (live' k) (get_or (set sets p v) k no_set) v (back' k) d (eqb k p) (lives live sets back k) (eq-eqb k p h)
    (ap live' h ∙ ap (λ f. f p) el ∙ plus_here live p l)
    (ap (λ x. get_or (set sets p v) x no_set) h ∙ get_or-set_same sets p v no_set m)
    (ap (λ f. f k) eb ∙ ap (λ x. cond x b (back k)) (eq-eqb k p h) ∙ e))
    (λ (h : k ≡ p → ⊥).
    as_before (live' k) (live k) (get_or (set sets p v) k no_set) (get_or sets k no_set) (back' k) (back k) (eqb k p) (Some (state d v)) (ne_eqb k p h)
    (ap (λ f. f k) el ∙ plus_other live p k l h) (get_or-set_other sets p k v no_set h) (ap (λ f. f k) eb ∙ ap (λ x. cond x b (back k)) (ne_eqb k p h)))
    (cases_eq k p))

pub flag_put : (live live' flags flags' : Members) (sets : List PositionSet) (f : PositionSet → Bool) (p : ℕ) (v : PositionSet) (b : Bool) → live' ≡ plus 64 live p → flags' ≡ marked flags p b → b ≡ f v → p < 64 → p < length sets → ((k : ℕ) → live k ≡ true → flags k ≡ f (get_or sets k no_set)) → (k : ℕ) → live' k ≡ true → flags' k ≡ f (get_or (set sets p v) k no_set)
flag_put live live' flags flags' sets f p v b el ef e l m old k h =
    ⊎_elim
    (λ (q : k ≡ p).
    ap (λ g. g k) ef ∙ ap (λ x. cond x b (flags k)) (eq-eqb k p q) ∙ e ∙ ap f (sym (ap (λ x. get_or (set sets p v) x no_set) q ∙ get_or-set_same sets p v no_set m)))
    (λ (q : k ≡ p → ⊥).
    ap (λ g. g k) ef ∙ ap (λ x. cond x b (flags k)) (ne_eqb k p q) ∙ old k (sym (ap (λ g. g k) el ∙ plus_other live p k l q) ∙ h)
    ∙ ap f (sym (get_or-set_other sets p k v no_set q)))
    (cases_eq k p)

-- reading the live sets

pub here : (live back : Members) (sets : List PositionSet) (p : ℕ) (v : PositionSet) (d : Direction) → live p ≡ true → get_or sets p no_set ≡ v → back p ≡ backward d → lives live sets back p ≡ Some (state d v)
here live back sets p v d e f h = some_at (live p) (get_or sets p no_set) v (back p) d true None refl e f h

pub record Here (live back : Members) (sets : List PositionSet) (p : ℕ) (v : PositionSet) (d : Direction) : Type 0 where
  pub on : live p ≡ true
  pub holds : get_or sets p no_set ≡ v
  pub way : back p ≡ backward d

back_heading : (b : Bool) → backward (heading b) ≡ b
back_heading true = refl
back_heading false = refl

pub is_here : (live back : Members) (sets : List PositionSet) (p : ℕ) (v : PositionSet) (d : Direction) → lives live sets back p ≡ Some (state d v) → Here live back sets p v d
is_here live back sets p v d e =
    ⊎_elim
    (λ (h : live p ≡ true).
    let s : state (heading (back p)) (get_or sets p no_set) ≡ state d v = some_same _ _ (sym (ap (λ y. cond y (Some (state (heading (back p)) (get_or sets p no_set))) None) h) ∙ e) in
    record { on = h; holds = ap (λ (x : State PositionSet). x.set) s; way = sym (back_heading (back p)) ∙ ap (λ (x : State PositionSet). backward x.direction) s })
    (λ (h : live p ≡ false). absurd (some_not _ (sym (ap (λ y. cond y (Some (state (heading (back p)) (get_or sets p no_set))) None) h) ∙ e)))
    (cases_Bool (live p))

taken_cond : (b : Bool) (s : State PositionSet) → taken (cond b (Some s) None) ≡ b
taken_cond true s = refl
taken_cond false s = refl

pub taken_lives : (live back : Members) (sets : List PositionSet) (k : ℕ) → taken (lives live sets back k) ≡ live k
taken_lives live back sets k = taken_cond (live k) (state (heading (back k)) (get_or sets k no_set))

pub counted : (live back : Members) (sets : List PositionSet) → tally (λ p. taken (lives live sets back p)) 64 ≡ tally live 64
counted live back sets = tally_same _ live 64 (λ k _. taken_lives live back sets k)

pub absent : (s : PlaceSet) (back : Members) (sets : List PositionSet) (v : PositionSet) (d : Direction) → ((p : ℕ) → p < 64 → (member s p ≡ true) × (get_or sets p no_set ≡ v) × (back p ≡ backward d) → ⊥) → (p : ℕ) → lives (member s) sets back p ≡ Some (state d v) → ⊥
absent s back sets v d h p e =
    let w = is_here (member s) back sets p v d e in
    h p (members_low s p w.on) (w.on, w.holds, w.way)

pub lowest : (m : Memory PositionSet) (live back : Members) (sets : List PositionSet) (p : ℕ) → m.live ≡ lives live sets back → LowestFree live p → LowestFree (held_places m) p
lowest m live back sets p e f =
    let same : (k : ℕ) → held_places m k ≡ live k = λ k. ap (λ l. taken (l k)) e ∙ taken_lives live back sets k in
    record { low = f.low; free = same p ∙ f.free; lower = λ k l. same k ∙ f.lower k l }

pub no_state : (b : Bool) (s : State PositionSet) → b ≡ false → cond b (Some s) None ≡ None
no_state b s e = ap (λ x. cond x (Some s) None) e

and_false : (b : Bool) → (b && false) ≡ false
and_false true = refl
and_false false = refl

pub less_out : (f x : Members) (k : ℕ) → x k ≡ true → less f x k ≡ false
less_out f x k h = ap (λ y. f k && not y) h ∙ and_false (f k)

-- what is kept over two changes is kept over both
pub kept_then : {M S P Sym : Type 0} (automaton : AutomatonMeaning M Sym) (shelf : ShelfMeaning S) (a b c : Scanner M S P) → Kept automaton shelf a b → Kept automaton shelf b c → Kept automaton shelf a c
kept_then automaton shelf a b c k l =
    record {
      automaton_same = l.automaton_same ∙ k.automaton_same;
      counts = λ h. l.counts (k.counts h);
      flags = λ h. subst (λ y. Flagged (automaton.subject y.now).machine b → Flagged (automaton.subject y.now).machine c) k.automaton_same l.flags (k.flags h);
    }

pub kept_same : {M S P Sym : Type 0} (automaton : AutomatonMeaning M Sym) (shelf : ShelfMeaning S) (a b : Scanner M S P) → b ≡ a → Kept automaton shelf a b
kept_same automaton shelf a b e =
    subst (λ y. Kept automaton shelf a y) (sym e) (record { automaton_same = refl; counts = λ h. h; flags = λ h. h })

-- a policy that was asked or touched
abbrev pub with_policy : {M S P : Type 0} → Scanner M S P → P → Scanner M S P
with_policy s q =
    record { automaton = s.automaton; shelf = s.shelf; policy = q; sets = s.sets; live = s.live; back = s.back; begins = s.begins; ends = s.ends; empties = s.empties; limit = s.limit }

pub kept_policy : {M S P Sym : Type 0} (automaton : AutomatonMeaning M Sym) (shelf : ShelfMeaning S) (s : Scanner M S P) (q : P) → Kept automaton shelf s (with_policy s q)
kept_policy automaton shelf s q =
    record { automaton_same = refl; counts = λ h. h; flags = λ f. record { begins = f.begins; ends = f.ends; empties = f.empties } }

pub told_policy : {M S P : Type 0} (shelf : ShelfMeaning S) (policy : PolicyMeaning P) (s : Scanner M S P) (q : P) → policy.live q ≡ policy.live s.policy → memory shelf policy (with_policy s q) ≡ memory shelf policy s
told_policy shelf policy s q e = same_memory (memory shelf policy (with_policy s q)) (memory shelf policy s) refl refl e refl refl refl

-- another shelf
abbrev pub with_shelf : {M S P : Type 0} → Scanner M S P → S → Scanner M S P
with_shelf s q =
    record { automaton = s.automaton; shelf = q; policy = s.policy; sets = s.sets; live = s.live; back = s.back; begins = s.begins; ends = s.ends; empties = s.empties; limit = s.limit }

pub kept_shelf : {M S P Sym : Type 0} (automaton : AutomatonMeaning M Sym) (shelf : ShelfMeaning S) (s : Scanner M S P) (q : S) → (shelf.sound s.shelf → shelf.sound q) → Kept automaton shelf s (with_shelf s q)
kept_shelf automaton shelf s q e =
    record { automaton_same = refl; counts = e; flags = λ f. record { begins = f.begins; ends = f.ends; empties = f.empties } }

pub same_bool : (a b : Bool) → not (beq a b) ≡ false → a ≡ b
same_bool true true e = refl
same_bool true false e = absurd (both_ways true e refl)
same_bool false true e = absurd (both_ways true e refl)
same_bool false false e = refl

-- another limit
abbrev pub with_most : {M S P : Type 0} → Scanner M S P → ℕ → Scanner M S P
with_most s l =
    record { automaton = s.automaton; shelf = s.shelf; policy = s.policy; sets = s.sets; live = s.live; back = s.back; begins = s.begins; ends = s.ends; empties = s.empties; limit = l }

pub kept_limit : {M S P Sym : Type 0} (automaton : AutomatonMeaning M Sym) (shelf : ShelfMeaning S) (s : Scanner M S P) (l : ℕ) → Kept automaton shelf s (with_most s l)
kept_limit automaton shelf s l =
    record { automaton_same = refl; counts = λ h. h; flags = λ f. record { begins = f.begins; ends = f.ends; empties = f.empties } }

pub and_lt : (i n : ℕ) (x : Bool) → true ≡ (ltb i n && x) → i < n
and_lt i n x e = ltb-true i n (and_parts (ltb i n) x (sym e)).0

pub and_not : (a x : Bool) → true ≡ (a && not x) → x ≡ false
and_not a true e = absurd (both_ways (not true) refl (and_parts a (not true) (sym e)).1)
and_not a false e = refl
