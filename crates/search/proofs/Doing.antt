-- Calls on a searcher, from the answers that the law asks for.
use Rattle.std.proofs.Common.{◌≡◌, ℕ, ◌≤◌, Bool, cond, ltb, List, length, drop, Some, None, Option, sym, refl, ap, ◌∙◌, subst}
use Rattle.std.proofs.lemmas.Bool.{lt-ltb}
use Rattle.refusal.specs.declared.Refusal.{Refusal}
use Rattle.sets.specs.Positions.{PositionSet}
use Rattle.memory.specs.declared.shelf.Shelf.{Ghosts as ShelfMeaning}
use Rattle.memory.specs.declared.policy.Policy.{Ghosts as PolicyMeaning}
use Rattle.theory.specs.declared.Span.{Span}
use Rattle.theory.specs.Scans.{start, find, whole}
use Rattle.theory.specs.Spans.{Finds}
use Rattle.law.specs.Subject.{Proper, Word}
use Rattle.law.specs.Memory.{Memory}
use Rattle.law.specs.Reading.{both}
use Rattle.law.specs.Calls.{Find, Lists, Listed as ListsFound, Whole, Request, Search, Found as FindsOne, Told, Searched, Refused as Refuses, refusal, refused, Answered, Answer as Reply}
use Rattle.law.specs.Law.{ByWords}
use Rattle.law.proofs.Calling.{calling, says}
use Rattle.automaton.specs.declared.automaton.Automaton.{Ghosts as AutomatonMeaning}
use Rattle.search.specs.declared.scanner.Scanner.{Scanner}
use Rattle.search.specs.declared.scanner.Scan.{Scan}
use Rattle.search.specs.declared.answer.Found.{Found}
use Rattle.search.specs.declared.answer.Listed.{Listed}
use Rattle.search.specs.Counted.{tallied}
use Rattle.search.specs.Remembered.{memory, subject, Ready, Kept}
use Rattle.search.specs.Scanning.{BackSoFar, Backed, Reached, Located, Collected}
use Rattle.search.specs.Calling.{Did}
use Rattle.search.proofs.Scans.{ready_next}
use Rattle.search.proofs.Ends.{find_some, walk_some, find_answered, list_answered, whole_answered}

module _ {M S P Sym : Type 0} (automaton : AutomatonMeaning M Sym) (shelf : ShelfMeaning S) (policy : PolicyMeaning P) (laws : (m : M) → Proper (automaton.subject m)) where
  pub did_by : (s s' : Scanner M S P) (c : Request Sym) (a : Reply) → Ready automaton shelf policy s → Kept automaton shelf s s' → Answered (subject automaton s) (memory shelf policy s) c (memory shelf policy s') a → Did automaton shelf policy s c s' a
  did_by s s' c a ready k w =
      record {
        answered = w;
        ready = ready_next automaton shelf policy laws s s' ready k (calling (subject automaton s) (laws s.automaton.now) (memory shelf policy s) c (memory shelf policy s') a ready.sound w).sound;
      }

  pub did_refused : (s : Scanner M S P) (c : Request Sym) (q : Refusal) → refusal c ≡ Some q → Ready automaton shelf policy s → Did automaton shelf policy s c s (Refuses q)
  did_refused s c q e ready = record { answered = refused q e refl refl; ready = ready }

  -- what a search found is right by the pattern's words
  pub by_words : (s n : Scanner M S P) (c : Request Sym) (a : Reply) → Ready automaton shelf policy s → Did automaton shelf policy s c n a → ByWords (subject automaton s) c a
  by_words s n c a ready did = (calling (subject automaton s) (laws s.automaton.now) (memory shelf policy s) c (memory shelf policy n) a ready.sound did.answered).words

  pub located_some : (j n : Scanner M S P) (m : Memory PositionSet) (r : List Sym) (f s : ℕ) (back : Scan (Option ℕ)) (ahead : Scan ℕ) (finding : Found) → n.automaton ≡ j.automaton → back.at ≡ f → back.mark ≡ Some s → finding.span ≡ cond (ltb s ahead.mark) (Some (record { start = s; end = ahead.mark })) None → tallied finding.counts ≡ both (tallied back.counts) (tallied ahead.counts) → Backed automaton shelf policy m r back j → Reached automaton shelf policy (memory shelf policy j) r s ahead n → Located automaton shelf policy m r f finding n
  located_some j n m r f s back ahead finding e at is span z b a =
      let X = subject automaton n in
      let so : BackSoFar X m r f back.cursor.set back.mark (memory shelf policy j) (tallied back.counts) =
      subst (λ y. BackSoFar X m r y back.cursor.set back.mark (memory shelf policy j) (tallied back.counts)) at
      (subst (λ y. BackSoFar (automaton.subject y.now) m r back.at back.cursor.set back.mark (memory shelf policy j) (tallied back.counts)) (sym e) b.so_far) in
      let begins : start X.machine f (drop f r) ≡ Some s = sym so.start_is ∙ is in
      let is_find : Some (record { start = s; end = ahead.mark }) ≡ find X.machine r f = find_some X r f s ahead.mark begins a.end_is in
      let F : Option Span → Type 0 = λ o. Finds (Word X) r f o in
      let word : Finds (Word X) r f (Some (record { start = s; end = ahead.mark })) = subst F (sym is_find) (says X (laws n.automaton.now) (Find r f)) in
      record {
        ready = a.ready;
        span_is = span ∙ ap (λ b. cond b (Some (record { start = s; end = ahead.mark })) None) (lt-ltb s ahead.mark word.match.some) ∙ is_find;
        walk = walk_some X m (memory shelf policy j) (memory shelf policy n) r f s (tallied back.counts) (tallied ahead.counts) (tallied finding.counts) begins so.walk a.walk z;
      }

  pub did_found : (s n : Scanner M S P) (r q : List Sym) (f : ℕ) (finding : Found) → r ≡ q → n.automaton ≡ s.automaton → length r ≤ 1048576 → f ≤ length r → Located automaton shelf policy (memory shelf policy s) r f finding n → Did automaton shelf policy s (Search (Find q f)) n (Searched (FindsOne finding.span) (tallied finding.counts))
  did_found s n r q f finding same e l h w =
      subst (λ y. Did automaton shelf policy s (Search (Find y f)) n (Searched (FindsOne finding.span) (tallied finding.counts))) same
      (record {
        answered = subst (λ y. Answered (automaton.subject y.now) (memory shelf policy s) (Search (Find r f)) (memory shelf policy n) (Searched (FindsOne finding.span) (tallied finding.counts))) e
            (find_answered (subject automaton n) (memory shelf policy s) (memory shelf policy n) r f finding.span (tallied finding.counts) l h w.span_is w.walk);
        ready = w.ready;
      })

  pub did_whole : (s n : Scanner M S P) (r q : List Sym) (y : Bool) (ahead : Scan ℕ) → r ≡ q → n.automaton ≡ s.automaton → length r ≤ 1048576 → y ≡ whole (subject automaton n).machine r → Reached automaton shelf policy (memory shelf policy s) r 0 ahead n → Did automaton shelf policy s (Search (Whole q)) n (Searched (Told y) (tallied ahead.counts))
  did_whole s n r q y ahead same e l is w =
      subst (λ z. Did automaton shelf policy s (Search (Whole z)) n (Searched (Told y) (tallied ahead.counts))) same
      (record {
        answered = subst (λ z. Answered (automaton.subject z.now) (memory shelf policy s) (Search (Whole r)) (memory shelf policy n) (Searched (Told y) (tallied ahead.counts))) e
            (whole_answered (subject automaton n) (memory shelf policy s) (memory shelf policy n) r y (tallied ahead.counts) l is w.walk);
        ready = w.ready;
      })

  pub did_listed : (s n : Scanner M S P) (r q : List Sym) (entries f : ℕ) (xs : List Span) (ending : Listed) → r ≡ q → n.automaton ≡ s.automaton → length r ≤ 1048576 → f ≤ length r → Collected automaton shelf policy (memory shelf policy s) r entries f xs ending n → Did automaton shelf policy s (Search (Lists q f entries)) n (Searched (ListsFound xs ending.rest) (tallied ending.counts))
  did_listed s n r q entries f xs ending same e l h w =
      subst (λ y. Did automaton shelf policy s (Search (Lists y f entries)) n (Searched (ListsFound xs ending.rest) (tallied ending.counts))) same
      (record {
        answered = subst (λ y. Answered (automaton.subject y.now) (memory shelf policy s) (Search (Lists r f entries)) (memory shelf policy n) (Searched (ListsFound xs ending.rest) (tallied ending.counts))) e
            (list_answered (subject automaton n) (memory shelf policy s) (memory shelf policy n) r f entries xs ending.rest (tallied ending.counts) l h w.written_is w.rest_is w.walk);
        ready = w.ready;
      })
