-- Whole calls, put together.
use Rattle.std.proofs.Common.{◌≡◌, ℕ, suc, ◌+◌, ◌<◌, ◌≤◌, Bool, true, false, cond, not, ◌&&◌, eqb, ltb, ◌⊎◌, List, [], ◌∷◌, ◌++◌, length, drop, Some, None, Option, sym, refl, ap, ◌∙◌, subst, inl, inr, ⊎_elim, arith}
use mathlib.Core.Path.{fun_ext}
use Rattle.std.proofs.lemmas.Bool.{cases_lt, cases_Bool, lt-ltb, le-ltb, ne_eqb, eq-eqb}
use Rattle.std.proofs.lemmas.List.{append-nil}
use Rattle.refusal.specs.declared.Cause.{Cause}
use Rattle.refusal.specs.declared.Cause.TheVariants.{RecordTooLong, FromPastEnd, LimitTooLarge}
use Rattle.refusal.specs.declared.Refusal.{Refusal}
use Rattle.sets.specs.Members.{Members, none, below, less}
use Rattle.sets.specs.Positions.{PositionSet}
use Rattle.memory.proofs.Sizes.{size_nothing}
use Rattle.theory.specs.declared.Span.{Span}
use Rattle.theory.specs.Reads.{Read, State, back_reads, ahead_reads, start_reads, find_reads, list_reads}
use Rattle.theory.specs.Scans.{start, far, from_start, find, list, run, whole}
use Rattle.law.specs.Subject.{Subject}
use Rattle.law.specs.Memory.{Memory, taken, sets_live, allowance, steps_known, without_places, emptied, with_limit, Sound}
use Rattle.law.specs.Reading.{Counts as Tallies, both, Walk}
use Rattle.law.specs.Calls.{Find, Lists, Whole, Search, Limit, Clear, Found, Listed, Told, Searched, Dropped, refused_if, refusal, within, beyond, Answered, searched, limited, cleared}
use Rattle.law.proofs.Maps.{some_not}
use Rattle.law.proofs.Walks.{walk_append}
use Rattle.search.proofs.Views.{same_memory}
use Rattle.search.proofs.Noting.{none_left}

-- nothing is left once every place is dropped
pub less_below : (f : Members) → ((k : ℕ) → f k ≡ true → k < 64) → less f (below 64) ≡ none
less_below f low =
    fun_ext
    (λ k.
    ⊎_elim
    (λ (h : f k ≡ true). ap (λ x. x && not (below 64 k)) h ∙ ap not (lt-ltb k 64 (low k h)))
    (λ (h : f k ≡ false). ap (λ x. x && not (below 64 k)) h)
    (cases_Bool (f k)))

and_false : (b : Bool) → (b && false) ≡ false
and_false true = refl
and_false false = refl

cases_live : (o : Option (State PositionSet)) → (o ≡ None) ⊎ ((s : State PositionSet) × (o ≡ Some s))
cases_live None = inl refl
cases_live (Some s) = inr (s, refl)

refusing : (b : Bool) (cause : Cause) (o : Option Refusal) → b ≡ true → refused_if b cause o ≡ Some (record { cause = cause; place = 0 })
refusing b cause o e = ap (λ y. refused_if y cause o) e

passing : (b : Bool) (cause : Cause) (o : Option Refusal) → b ≡ false → refused_if b cause o ≡ o
passing b cause o e = ap (λ y. refused_if y cause o) e

-- a record that is too long is refused, whatever comes next
pub refused_first : (b : Bool) (cause : Cause) (o : Option Refusal) (q : Refusal) → refused_if b cause None ≡ Some q → refused_if b cause o ≡ Some q
refused_first true cause o q e = e
refused_first false cause o q e = absurd (some_not q e)

pub too_large : (k : ℕ) → 64 < k → refused_if (ltb 64 k) LimitTooLarge None ≡ Some (record { cause = LimitTooLarge; place = 0 })
too_large k l = refusing (ltb 64 k) LimitTooLarge None (lt-ltb 64 k l)

module _ {Sym : Type 0} where
  pub too_long : (r : List Sym) → 1048576 < length r → refusal (Search (Whole r)) ≡ Some (record { cause = RecordTooLong; place = 0 })
  too_long r l = refusing (ltb 1048576 (length r)) RecordTooLong None (lt-ltb 1048576 (length r) l)

  pub past_end : (r : List Sym) (f : ℕ) → length r ≤ 1048576 → length r < f → refusal (Search (Find r f)) ≡ Some (record { cause = FromPastEnd; place = 0 })
  past_end r f l h = passing (ltb 1048576 (length r)) RecordTooLong _ (le-ltb 1048576 (length r) l) ∙ refusing (ltb (length r) f) FromPastEnd None (lt-ltb (length r) f h)

module _ {Sym : Type 0} (X : Subject Sym PositionSet) where
  free_above : (m : Memory PositionSet) (k : ℕ) → Sound X m → 64 ≤ k → m.live k ≡ None
  free_above m k ok l =
      ⊎_elim (λ (h : m.live k ≡ None). h) (λ (h : (s : State PositionSet) × (m.live k ≡ Some s)). absurd (omega (arith, ok.low k h.0 h.1, ok.few))) (cases_live (m.live k))

  -- to drop every place is to drop everything
  drop_every : (m : Memory PositionSet) → Sound X m → without_places m (below 64) ≡ emptied m
  drop_every m ok =
      same_memory (without_places m (below 64)) (emptied m)
      (fun_ext
      (λ k.
      ⊎_elim
      (λ (l : k < 64). ap (λ b. cond b None (m.live k)) (lt-ltb k 64 l))
      (λ (l : 64 ≤ k). ap (λ b. cond b None (m.live k)) (le-ltb k 64 l) ∙ free_above m k ok l)
      (cases_lt k 64)))
      (none_left m.places m.known (λ p c t e. let j = ok.joins p c t e in (ok.low p _ j.here, ok.classes p c t e, ok.low t _ j.there)) ok.few)
      (fun_ext
      (λ k.
      ⊎_elim
      (λ (l : k < 64). ap (λ b. m.told k && not b) (lt-ltb k 64 l) ∙ and_false (m.told k))
      (λ (l : 64 ≤ k). ap (λ b. b && not (below 64 k)) (ok.heard k ∙ ap taken (free_above m k ok l)))
      (cases_lt k 64)))
      refl refl refl

  all_gone : (m : Memory PositionSet) (x : Members) (d : ℕ) → Sound X m → x ≡ below 64 → d + steps_known (without_places m x) ≡ steps_known m → d ≡ steps_known m
  all_gone m x d ok e z =
      let n : steps_known (without_places m x) ≡ 0 = ap (λ y. steps_known (without_places m y)) e ∙ ap steps_known (drop_every m ok) ∙ size_nothing m.places in
      omega arith

  pub clear_answered : (m n : Memory PositionSet) (x : Members) (d : ℕ) → Sound X m → x ≡ below 64 → n ≡ without_places m x → d + steps_known (without_places m x) ≡ steps_known m → Answered X m Clear n (Dropped d)
  clear_answered m n x d ok e same z = cleared d refl refl (same ∙ ap (without_places m) e ∙ drop_every m ok) (all_gone m x d ok e z)

  -- limit

  unrefused : (k : ℕ) → k ≤ 64 → refusal {Sym = Sym} (Limit k) ≡ None
  unrefused k l = passing (ltb 64 k) LimitTooLarge None (le-ltb 64 k l)

  pub limit_within : (m : Memory PositionSet) (k : ℕ) → k ≤ 64 → sets_live m ≤ allowance (with_limit m k) → Answered X m (Limit k) (with_limit m k) (Dropped 0)
  limit_within m k l few = limited k 0 refl (unrefused k l) refl (within few refl refl)

  pub limit_beyond : (m n : Memory PositionSet) (k : ℕ) (x : Members) (d : ℕ) → Sound X m → k ≤ 64 → allowance (with_limit m k) < sets_live m → x ≡ below 64 → n ≡ without_places (with_limit m k) x → d + steps_known (without_places (with_limit m k) x) ≡ steps_known m → Answered X m (Limit k) n (Dropped d)
  limit_beyond m n k x d ok l many e same z =
      limited k d refl (unrefused k l) refl (beyond many (same ∙ ap (without_places (with_limit m k)) e ∙ ap (λ (y : Memory PositionSet). with_limit y k) (drop_every m ok)) (all_gone m x d ok e z))

  -- find

  pub accepted : (r : List Sym) (f : ℕ) → length r ≤ 1048576 → f ≤ length r → refusal (Search (Find r f)) ≡ None
  accepted r f l h = passing (ltb 1048576 (length r)) RecordTooLong _ (le-ltb 1048576 (length r) l) ∙ passing (ltb (length r) f) FromPastEnd None (le-ltb (length r) f h)

  pub find_answered : (m n : Memory PositionSet) (r : List Sym) (f : ℕ) (x : Option Span) (k : Tallies) → length r ≤ 1048576 → f ≤ length r → x ≡ find X.machine r f → Walk X m (find_reads X.machine r f) n k → Answered X m (Search (Find r f)) n (Searched (Found x) k)
  find_answered m n r f x k l h e w = searched (Find r f) k refl (accepted r f l h) (ap (λ y. Searched (Found y) k) e) w

  -- list

  pub list_answered : (m n : Memory PositionSet) (r : List Sym) (f entries : ℕ) (xs : List Span) (rest : Option ℕ) (k : Tallies) → length r ≤ 1048576 → f ≤ length r → xs ≡ (list X.machine r entries f).written → rest ≡ (list X.machine r entries f).rest → Walk X m (list_reads X.machine r entries f) n k → Answered X m (Search (Lists r f entries)) n (Searched (Listed xs rest) k)
  list_answered m n r f entries xs rest k l h ex er w =
      searched (Lists r f entries) k refl (accepted r f l h) (ap (λ y. Searched (Listed y rest) k) ex ∙ ap (λ y. Searched (Listed (list X.machine r entries f).written y) k) er) w

  -- a find from its two scans

  pub find_none : (r : List Sym) (f : ℕ) → start X.machine f (drop f r) ≡ None → None ≡ find X.machine r f
  find_none r f e = sym (ap (from_start X.machine r) e)

  pub walk_none : (m n : Memory PositionSet) (r : List Sym) (f : ℕ) (k : Tallies) → start X.machine f (drop f r) ≡ None → Walk X m (back_reads X.machine (drop f r)) n k → Walk X m (find_reads X.machine r f) n k
  walk_none m n r f k e w =
      let P : List (Read Sym PositionSet) → Type 0 = λ xs. Walk X m xs n k in
      subst P (sym (ap (λ o. back_reads X.machine (drop f r) ++ start_reads X.machine r o) e ∙ append-nil (back_reads X.machine (drop f r)))) w

  pub find_some : (r : List Sym) (f s e : ℕ) → start X.machine f (drop f r) ≡ Some s → e ≡ far X.machine s s X.machine.begin (drop s r) → Some (record { start = s; end = e }) ≡ find X.machine r f
  find_some r f s e h z = ap (λ y. Some (record { start = s; end = y })) z ∙ sym (ap (from_start X.machine r) h)

  pub walk_some : (m j n : Memory PositionSet) (r : List Sym) (f s : ℕ) (a b k : Tallies) → start X.machine f (drop f r) ≡ Some s → Walk X m (back_reads X.machine (drop f r)) j a → Walk X j (ahead_reads X.machine X.machine.begin (drop s r)) n b → k ≡ both a b → Walk X m (find_reads X.machine r f) n k
  walk_some m j n r f s a b k h w v z =
      let P : List (Read Sym PositionSet) → Type 0 = λ xs. Walk X m (back_reads X.machine (drop f r) ++ xs) n k in
      let Q : Tallies → Type 0 = λ y. Walk X m (back_reads X.machine (drop f r) ++ ahead_reads X.machine X.machine.begin (drop s r)) n y in
      subst P (sym (ap (start_reads X.machine r) h)) (subst Q (sym z) (walk_append X m (back_reads X.machine (drop f r)) j a (ahead_reads X.machine X.machine.begin (drop s r)) n b w v))

  -- whole

  abbrev next : PositionSet → Sym → PositionSet
  next S a = X.machine.ahead S a

  run_dead : (S : PositionSet) (a : Sym) (w : List Sym) → X.machine.empty (next S a) ≡ true → run X.machine S (a ∷ w) ≡ false
  run_dead S a w e = ap (λ y. cond y false (run X.machine (next S a) w)) e

  run_live : (S : PositionSet) (a : Sym) (w : List Sym) → X.machine.empty (next S a) ≡ false → run X.machine S (a ∷ w) ≡ run X.machine (next S a) w
  run_live S a w e = ap (λ y. cond y false (run X.machine (next S a) w)) e

  abbrev farther : ℕ → ℕ → PositionSet → Sym → List Sym → ℕ
  farther b i S a w = far X.machine (cond (X.machine.last (next S a)) (suc i) b) (suc i) (next S a) w

  far_dead : (b i : ℕ) (S : PositionSet) (a : Sym) (w : List Sym) → X.machine.empty (next S a) ≡ true → far X.machine b i S (a ∷ w) ≡ b
  far_dead b i S a w e = ap (λ y. cond y b (farther b i S a w)) e

  far_live : (b i : ℕ) (S : PositionSet) (a : Sym) (w : List Sym) → X.machine.empty (next S a) ≡ false → far X.machine b i S (a ∷ w) ≡ farther b i S a w
  far_live b i S a w e = ap (λ y. cond y b (farther b i S a w)) e

  next_end : (l : Bool) (b i : ℕ) → b ≤ i → (cond l (suc i) b ≤ suc i) × (eqb (cond l (suc i) b) (suc i) ≡ l)
  next_end true b i h = (omega arith, eq-eqb (suc i) (suc i) refl)
  next_end false b i h = (omega arith, ne_eqb b (suc i) (λ e. omega arith))

  -- the whole is a word exactly if the furthest end is the record's: one symbol more, and then any
  whole_more : (a : Sym) (w : List Sym) (b i : ℕ) (S : PositionSet) → b ≤ i → ((b' : ℕ) (T : PositionSet) → b' ≤ suc i → eqb b' (suc i) ≡ X.machine.last T → eqb (far X.machine b' (suc i) T w) (suc i + length w) ≡ run X.machine T w) → eqb (far X.machine b i S (a ∷ w)) (i + length (a ∷ w)) ≡ run X.machine S (a ∷ w)
  whole_more a w b i S l more =
      let n = next_end (X.machine.last (next S a)) b i l in
      let long : i + length (a ∷ w) ≡ suc i + length w = omega arith in
      ⊎_elim
      (λ (h : X.machine.empty (next S a) ≡ true). ap (λ x. eqb x (i + length (a ∷ w))) (far_dead b i S a w h) ∙ ne_eqb b (i + length (a ∷ w)) (λ z. omega arith) ∙ sym (run_dead S a w h))
      (λ (h : X.machine.empty (next S a) ≡ false).
      ap (λ x. eqb x (i + length (a ∷ w))) (far_live b i S a w h) ∙ ap (eqb _) long ∙ more (cond (X.machine.last (next S a)) (suc i) b) (next S a) n.0 n.1 ∙ sym (run_live S a w h))
      (cases_Bool (X.machine.empty (next S a)))

  whole_any : (w : List Sym) (b i : ℕ) (S : PositionSet) → b ≤ i → eqb b i ≡ X.machine.last S → eqb (far X.machine b i S w) (i + length w) ≡ run X.machine S w
  whole_any [] b i S l e = ap (eqb b) (omega arith) ∙ e
  whole_any (a ∷ w) b i S l e = whole_more a w b i S l (λ b' T. whole_any w b' (suc i) T)

  pub whole_is : (r : List Sym) (e : ℕ) → 0 < length r → e ≡ far X.machine 0 0 X.machine.begin (drop 0 r) → eqb e (length r) ≡ whole X.machine r
  whole_is [] e l z = absurd (omega arith)
  whole_is (a ∷ w) e l z =
      let long : length (a ∷ w) ≡ 0 + length (a ∷ w) = omega arith in
      ap (λ x. eqb x (length (a ∷ w))) z ∙ ap (eqb _) long ∙ whole_more a w 0 0 X.machine.begin (omega arith) (λ b' T. whole_any w b' 1 T)

  pub whole_none : (r : List Sym) → length r ≡ 0 → X.machine.nullable ≡ whole X.machine r
  whole_none [] e = refl
  whole_none (a ∷ w) e = absurd (omega arith)

  pub short : (r : List Sym) → length r ≤ 1048576 → refusal (Search (Whole r)) ≡ None
  short r l = passing (ltb 1048576 (length r)) RecordTooLong None (le-ltb 1048576 (length r) l)

  pub whole_answered : (m n : Memory PositionSet) (r : List Sym) (y : Bool) (k : Tallies) → length r ≤ 1048576 → y ≡ whole X.machine r → Walk X m (ahead_reads X.machine X.machine.begin (drop 0 r)) n k → Answered X m (Search (Whole r)) n (Searched (Told y) k)
  whole_answered m n r y k l e w = searched (Whole r) k refl (passing (ltb 1048576 (length r)) RecordTooLong None (le-ltb 1048576 (length r) l)) (ap (λ z. Searched (Told z) k) e) w
