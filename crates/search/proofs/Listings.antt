-- The turns of a list.
use Rattle.std.proofs.Common.{◌≡◌, ℕ, zero, suc, ◌+◌, ◌-◌, List, [], ◌∷◌, ◌++◌, length, take, drop, Some, None, Ok, Err, Option, sym, refl, ap, ◌∙◌, subst, arith, length-set}
use Rattle.std.proofs.lemmas.List.{append_assoc, append-nil, take_more_set, drop-set-lt, drop-drop}
use Rattle.std.proofs.lemmas.Bool.{ltb-true, ltb-false}
use Rattle.collector.specs.declared.Collector.{Collector}
use Rattle.collector.specs.Pushing.{Pushed, held, size}
use Rattle.sets.specs.Positions.{PositionSet}
use Rattle.memory.specs.declared.shelf.Shelf.{Ghosts as ShelfMeaning}
use Rattle.memory.specs.declared.policy.Policy.{Ghosts as PolicyMeaning}
use Rattle.theory.specs.declared.Span.{Span}
use Rattle.theory.specs.Reads.{Read, find_reads, next_reads, list_reads}
use Rattle.theory.specs.Scans.{find, no_entry, one_entry, list}
use Rattle.law.specs.Subject.{Subject}
use Rattle.law.specs.Memory.{Memory}
use Rattle.law.specs.Reading.{Counts as Tallies, zeros, both, Walk}
use Rattle.law.proofs.Walks.{walk_append}
use Rattle.automaton.specs.declared.automaton.Automaton.{Ghosts as AutomatonMeaning}
use Rattle.search.specs.declared.scanner.Scanner.{Scanner}
use Rattle.search.specs.declared.answer.Found.{Found}
use Rattle.search.specs.declared.answer.Listed.{Listed}
use Rattle.search.specs.declared.counts.Counts.{Counts}
use Rattle.search.specs.Counted.{tallied}
use Rattle.search.specs.Remembered.{memory, subject, Ready}
use Rattle.search.specs.Scanning.{Located, ListSoFar, Listing, Collected, Filled}

module _ {Sym : Type 0} (X : Subject Sym PositionSet) where
  pub list_begun : (m : Memory PositionSet) (r : List Sym) (entries from : ℕ) (k : Tallies) → k ≡ zeros → ListSoFar X m r entries from [] entries from m k
  list_begun m r entries from k z = record { done = []; walk = (refl, z); reads = refl; written = refl; rest = refl }

  pub list_next : (m : Memory PositionSet) (r : List Sym) (entries from : ℕ) (xs : List Span) (left at : ℕ) (x : Span) (n n' : Memory PositionSet) (k k' kk : Tallies) → find X.machine r at ≡ Some x → kk ≡ both k k' → Walk X n (find_reads X.machine r at) n' k' → ListSoFar X m r entries from xs (suc left) at n k → ListSoFar X m r entries from (xs ++ (x ∷ [])) left x.end n' kk
  list_next m r entries from xs left at x n n' k k' kk e z w h =
      let mach = X.machine in
      let Q : Tallies → Type 0 = λ y. Walk X m (h.done ++ find_reads mach r at) n' y in
      record {
        done = h.done ++ find_reads mach r at;
        walk = subst Q (sym z) (walk_append X m h.done n k (find_reads mach r at) n' k' h.walk w);
        reads = h.reads ∙ ap (λ o. h.done ++ (find_reads mach r at ++ next_reads o (list_reads mach r left))) e ∙ sym (append_assoc h.done (find_reads mach r at) (list_reads mach r left x.end));
        written = h.written ∙ ap (λ o. xs ++ (one_entry o (list mach r left)).written) e ∙ sym (append_assoc xs (x ∷ []) (list mach r left x.end).written);
        rest = h.rest ∙ ap (λ o. (one_entry o (list mach r left)).rest) e;
      }

  -- nothing was found, whatever entries are left
  none_written : (r : List Sym) (left at : ℕ) → find X.machine r at ≡ None → (list X.machine r left at).written ≡ []
  none_written r zero at e = ap (λ o. (no_entry at o).written) e
  none_written r (suc left) at e = ap (λ o. (one_entry o (list X.machine r left)).written) e

  none_rest : (r : List Sym) (left at : ℕ) → find X.machine r at ≡ None → (list X.machine r left at).rest ≡ None
  none_rest r zero at e = ap (λ o. (no_entry at o).rest) e
  none_rest r (suc left) at e = ap (λ o. (one_entry o (list X.machine r left)).rest) e

  none_reads : (r : List Sym) (left at : ℕ) → find X.machine r at ≡ None → list_reads X.machine r left at ≡ find_reads X.machine r at
  none_reads r zero at e = refl
  none_reads r (suc left) at e = ap (λ o. find_reads X.machine r at ++ next_reads o (list_reads X.machine r left)) e ∙ append-nil (find_reads X.machine r at)

  pub record ListOver (m : Memory PositionSet) (r : List Sym) (entries from : ℕ) (xs : List Span) (rest : Option ℕ) (n : Memory PositionSet) (k : Tallies) : Type 0 where
    pub written_is : xs ≡ (list X.machine r entries from).written
    pub rest_is : rest ≡ (list X.machine r entries from).rest
    pub walk : Walk X m (list_reads X.machine r entries from) n k

  over : (m : Memory PositionSet) (r : List Sym) (entries from : ℕ) (xs : List Span) (left at : ℕ) (rest : Option ℕ) (n n' : Memory PositionSet) (k k' kk : Tallies) → (list X.machine r left at).written ≡ [] → rest ≡ (list X.machine r left at).rest → list_reads X.machine r left at ≡ find_reads X.machine r at → kk ≡ both k k' → Walk X n (find_reads X.machine r at) n' k' → ListSoFar X m r entries from xs left at n k → ListOver m r entries from xs rest n' kk
  over m r entries from xs left at rest n n' k k' kk ew er rd z w h =
      let P : List (Read Sym PositionSet) → Type 0 = λ ys. Walk X m ys n' kk in
      let Q : Tallies → Type 0 = λ y. Walk X m (h.done ++ find_reads X.machine r at) n' y in
      record {
        written_is = sym (h.written ∙ ap (λ ys. xs ++ ys) ew ∙ append-nil xs);
        rest_is = er ∙ sym h.rest;
        walk = subst P (sym (h.reads ∙ ap (λ ys. h.done ++ ys) rd)) (subst Q (sym z) (walk_append X m h.done n k (find_reads X.machine r at) n' k' h.walk w));
      }

  pub list_none : (m : Memory PositionSet) (r : List Sym) (entries from : ℕ) (xs : List Span) (left at : ℕ) (n n' : Memory PositionSet) (k k' kk : Tallies) → find X.machine r at ≡ None → kk ≡ both k k' → Walk X n (find_reads X.machine r at) n' k' → ListSoFar X m r entries from xs left at n k → ListOver m r entries from xs None n' kk
  list_none m r entries from xs left at n n' k k' kk e = over m r entries from xs left at None n n' k k' kk (none_written r left at e) (sym (none_rest r left at e)) (none_reads r left at e)

  pub list_full : (m : Memory PositionSet) (r : List Sym) (entries from : ℕ) (xs : List Span) (at : ℕ) (x : Span) (n n' : Memory PositionSet) (k k' kk : Tallies) → find X.machine r at ≡ Some x → kk ≡ both k k' → Walk X n (find_reads X.machine r at) n' k' → ListSoFar X m r entries from xs 0 at n k → ListOver m r entries from xs (Some at) n' kk
  list_full m r entries from xs at x n n' k k' kk e = over m r entries from xs 0 at (Some at) n n' k k' kk (ap (λ o. (no_entry at o).written) e) (sym (ap (λ o. (no_entry at o).rest) e)) refl

module _ {M S P Sym : Type 0} (automaton : AutomatonMeaning M Sym) (shelf : ShelfMeaning S) (policy : PolicyMeaning P) where
  pub listing_begun : (s : Scanner M S P) (r : List Sym) (entries from : ℕ) (xs : List Span) (left : ℕ) (k : Counts) → xs ≡ [] → left ≡ entries → tallied k ≡ zeros → Ready automaton shelf policy s → Listing automaton shelf policy (memory shelf policy s) r entries from xs left from k s
  listing_begun s r entries from xs left k ex el z ready =
      let X = subject automaton s in
      let m = memory shelf policy s in
      record {
        ready = ready;
        so_far = subst (λ y. ListSoFar X m r entries from y left from m (tallied k)) (sym ex) (subst (λ y. ListSoFar X m r entries from [] y from m (tallied k)) (sym el) (list_begun X m r entries from (tallied k) z));
      }

  -- the same of the searcher after a find
  after : (s n : Scanner M S P) (m : Memory PositionSet) (r : List Sym) (entries from : ℕ) (xs : List Span) (left at : ℕ) (k : Counts) → n.automaton ≡ s.automaton → Listing automaton shelf policy m r entries from xs left at k s → ListSoFar (subject automaton n) m r entries from xs left at (memory shelf policy s) (tallied k)
  after s n m r entries from xs left at k e h = subst (λ y. ListSoFar (automaton.subject y.now) m r entries from xs left at (memory shelf policy s) (tallied k)) (sym e) h.so_far

  pub listing_next : (s n : Scanner M S P) (m : Memory PositionSet) (r : List Sym) (entries from : ℕ) (xs ys : List Span) (left less at : ℕ) (x : Span) (k kk : Counts) (finding : Found) → n.automaton ≡ s.automaton → finding.span ≡ Some x → left ≡ suc less → ys ≡ xs ++ (x ∷ []) → tallied kk ≡ both (tallied k) (tallied finding.counts) → Located automaton shelf policy (memory shelf policy s) r at finding n → Listing automaton shelf policy m r entries from xs left at k s → Listing automaton shelf policy m r entries from ys less x.end kk n
  listing_next s n m r entries from xs ys left less at x k kk finding e is el ey z w h =
      let X = subject automaton n in
      record {
        ready = w.ready;
        so_far = subst (λ y. ListSoFar X m r entries from y less x.end (memory shelf policy n) (tallied kk)) (sym ey)
            (list_next X m r entries from xs less at x (memory shelf policy s) (memory shelf policy n) (tallied k) (tallied finding.counts) (tallied kk) (sym w.span_is ∙ is) z w.walk
            (subst (λ y. ListSoFar X m r entries from xs y at (memory shelf policy s) (tallied k)) el (after s n m r entries from xs left at k e h)));
      }

  listed : (n : Scanner M S P) (m : Memory PositionSet) (r : List Sym) (entries from : ℕ) (xs : List Span) (rest : Option ℕ) (k : Tallies) (ending : Listed) → Ready automaton shelf policy n → rest ≡ ending.rest → k ≡ tallied ending.counts → ListOver (subject automaton n) m r entries from xs rest (memory shelf policy n) k → Collected automaton shelf policy m r entries from xs ending n
  listed n m r entries from xs rest k ending ready er ek o =
      record {
        ready = ready;
        written_is = o.written_is;
        rest_is = sym er ∙ o.rest_is;
        walk = subst (λ y. Walk (subject automaton n) m (list_reads (subject automaton n).machine r entries from) (memory shelf policy n) y) ek o.walk;
      }

  pub listed_none : (s n : Scanner M S P) (m : Memory PositionSet) (r : List Sym) (entries from : ℕ) (xs : List Span) (left at : ℕ) (k : Counts) (finding : Found) (ending : Listed) → n.automaton ≡ s.automaton → finding.span ≡ None → None ≡ ending.rest → tallied ending.counts ≡ both (tallied k) (tallied finding.counts) → Located automaton shelf policy (memory shelf policy s) r at finding n → Listing automaton shelf policy m r entries from xs left at k s → Collected automaton shelf policy m r entries from xs ending n
  listed_none s n m r entries from xs left at k finding ending e is er z w h =
      listed n m r entries from xs None (both (tallied k) (tallied finding.counts)) ending w.ready er (sym z)
      (list_none (subject automaton n) m r entries from xs left at (memory shelf policy s) (memory shelf policy n) (tallied k) (tallied finding.counts) _ (sym w.span_is ∙ is) refl w.walk (after s n m r entries from xs left at k e h))

  pub listed_full : (s n : Scanner M S P) (m : Memory PositionSet) (r : List Sym) (entries from : ℕ) (xs : List Span) (left at : ℕ) (x : Span) (k : Counts) (finding : Found) (ending : Listed) → n.automaton ≡ s.automaton → finding.span ≡ Some x → left ≡ 0 → Some at ≡ ending.rest → tallied ending.counts ≡ both (tallied k) (tallied finding.counts) → Located automaton shelf policy (memory shelf policy s) r at finding n → Listing automaton shelf policy m r entries from xs left at k s → Collected automaton shelf policy m r entries from xs ending n
  listed_full s n m r entries from xs left at x k finding ending e is el er z w h =
      listed n m r entries from xs (Some at) (both (tallied k) (tallied finding.counts)) ending w.ready er (sym z)
      (list_full (subject automaton n) m r entries from xs at x (memory shelf policy s) (memory shelf policy n) (tallied k) (tallied finding.counts) _ (sym w.span_is ∙ is) refl w.walk
      (subst (λ y. ListSoFar (subject automaton n) m r entries from xs y at (memory shelf policy s) (tallied k)) el (after s n m r entries from xs left at k e h)))

-- what a push does to a collector

pub pushed_left : (before after : Collector Span) (x : Span) → Pushed before after x (Ok tt) → size before - before.used ≡ suc (size after - after.used)
pushed_left before after x p =
    let lt = ltb-true before.used (size before) (sym p.free) in
    let long : size after ≡ size before = ap length p.written ∙ length-set before.entries.now before.used x in
    omega (arith, p.count)

pub pushed_held : (before after : Collector Span) (x : Span) → Pushed before after x (Ok tt) → held after ≡ held before ++ (x ∷ [])
pushed_held before after x p =
    ap (λ n. take n after.entries.now) p.count ∙ ap (take (before.used + 1)) p.written
    ∙ take_more_set before.entries.now before.used x (ltb-true before.used (size before) (sym p.free))

pub pushed_filled : (first before after : Collector Span) (x : Span) → Filled first before → Pushed before after x (Ok tt) → Filled first after
pushed_filled first before after x f p =
    let lt = ltb-true before.used (size before) (sym p.free) in
    let long : size after ≡ size before = ap length p.written ∙ length-set before.entries.now before.used x in
    let used : after.used ≡ before.used + 1 = p.count in
    record {
      size = long ∙ f.size;
      behind = ap (λ n. drop n after.entries.now) used ∙ ap (drop (before.used + 1)) p.written
          ∙ drop-set-lt _ before.entries.now before.used x (omega arith)
          ∙ sym (drop-drop 1 before.used _) ∙ ap (drop 1) f.behind ∙ drop-drop 1 before.used _
          ∙ ap (λ n. drop n first.entries.now) (sym used);
      lender = p.lender ∙ f.lender;
    }

pub full_left : (before after : Collector Span) (x y : Span) → Pushed before after x (Err y) → size before - before.used ≡ 0
full_left before after x y p = omega (arith, ltb-false before.used (size before) (sym p.free))

pub full_held : (before after : Collector Span) (x y : Span) → Pushed before after x (Err y) → held after ≡ held before
full_held before after x y p = ap (λ n. take n after.entries.now) (p.count ∙ add_none before.used) ∙ ap (take before.used) p.written
  where
    add_none : (n : ℕ) → n + 0 ≡ n
    add_none n = omega arith

pub full_filled : (first before after : Collector Span) (x y : Span) → Filled first before → Pushed before after x (Err y) → Filled first after
full_filled first before after x y f p =
    let used : after.used ≡ before.used = omega (arith, p.count) in
    record {
      size = ap length p.written ∙ f.size;
      behind = ap (λ n. drop n after.entries.now) used ∙ ap (drop before.used) p.written ∙ f.behind ∙ ap (λ n. drop n first.entries.now) (sym used);
      lender = p.lender ∙ f.lender;
    }

pub take_none : {A : Type 0} (xs : List A) → take 0 xs ≡ []
take_none [] = refl
take_none (x ∷ xs) = refl
