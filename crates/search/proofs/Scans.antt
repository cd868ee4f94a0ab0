-- The turns of the two scans.
use Rattle.std.proofs.Common.{◌≡◌, ℕ, ◌+◌, ◌<◌, ◌≤◌, Bool, true, false, cond, not, ◌&&◌, T, ltb, ◌⊎◌, List, [], ◌∷◌, ◌++◌, length, get_or, drop, Some, None, Option, sym, refl, ap, ◌∙◌, subst, inl, inr, ⊎_elim, arith}
use Rattle.std.proofs.lemmas.Bool.{cases_Bool, cases_lt, lt-ltb, both_ways}
use lib.Seq.{drop-length}
use Rattle.std.proofs.lemmas.List.{append_assoc, append-nil}
use Rattle.sets.specs.Positions.{PositionSet}
use Rattle.memory.specs.declared.shelf.Shelf.{Ghosts as ShelfMeaning}
use Rattle.memory.specs.declared.policy.Policy.{Ghosts as PolicyMeaning}
use Rattle.theory.specs.declared.Direction.TheVariants.{Ahead, Back}
use Rattle.theory.specs.Reads.{Read, back_reads, ahead_reads}
use Rattle.theory.specs.Scans.{backs, start, far}
use Rattle.theory.proofs.Turns.{backs_turn, start_turn, back_reads_turn, far_turn, ahead_reads_turn}
use Rattle.law.specs.Subject.{Subject, leads, Proper}
use Rattle.law.specs.Memory.{Memory, Sound}
use Rattle.law.specs.Reading.{Counts as Tallies, zeros, both, OneRead, Walk}
use Rattle.law.proofs.Readings.{reading}
use Rattle.law.proofs.Walks.{walk_snoc}
use Rattle.automaton.specs.declared.automaton.Automaton.{Ghosts as AutomatonMeaning}
use Rattle.search.specs.declared.scanner.Scanner.{Scanner}
use Rattle.search.specs.declared.scanner.Scan.{Scan}
use Rattle.search.specs.declared.scanner.Move.{Move}
use Rattle.search.specs.Counted.{tallied}
use Rattle.search.specs.Remembered.{read, memory, subject, Flagged, Ready, Kept, At, Moved}
use Rattle.search.specs.Scanning.{BackSoFar, Backed, AheadSoFar, Aheaded, Reached}

module _ {Sym : Type 0} (X : Subject Sym PositionSet) where
  pub back_begun : (m : Memory PositionSet) (r : List Sym) (at : ℕ) (S : PositionSet) (k : Tallies) → at ≡ length r → S ≡ X.machine.begin → k ≡ zeros → BackSoFar X m r at S None m k
  back_begun m r at S k e s z =
      let d : drop at r ≡ [] = ap (λ x. drop x r) e ∙ drop-length r in
      let P : List Sym → Type 0 = λ w. Walk X m (back_reads X.machine w) m k in
      record { set_is = s ∙ sym (ap (backs X.machine) d); start_is = sym (ap (start X.machine at) d); walk = subst P (sym d) (refl, z) }

  pub back_next : (m : Memory PositionSet) (r : List Sym) (i j : ℕ) (a : Sym) (S T : PositionSet) (o : Option ℕ) (n n' : Memory PositionSet) (k k' kk : Tallies) (b : Bool) → j ≡ i + 1 → i < length r → a ≡ get_or r i a → BackSoFar X m r j S o n k → OneRead X n (read Back S a) n' k' → T ≡ leads X Back S a → X.machine.first T ≡ b → kk ≡ both k k' → BackSoFar X m r i T (cond b (Some i) o) n' kk
  back_next m r i j a S T o n n' k k' kk b e l is h s t f z =
      let jw : drop j r ≡ drop (i + 1) r = ap (λ x. drop x r) e in
      let at : S ≡ backs X.machine (drop (i + 1) r) = h.set_is ∙ ap (backs X.machine) jw in
      let set : T ≡ backs X.machine (drop i r) = backs_turn X.machine r i a l S T at (t ∙ ap (X.machine.back S) is) in
      let os : o ≡ start X.machine (i + 1) (drop (i + 1) r) = h.start_is ∙ ap (λ x. start X.machine x (drop x r)) e in
      let P : List (Read Sym PositionSet) → Type 0 = λ xs. Walk X m xs n' (both k k') in
      let Q : Tallies → Type 0 = λ y. Walk X m (back_reads X.machine (drop i r)) n' y in
      let A : List Sym → Type 0 = λ w. Walk X m (back_reads X.machine w) n k in
      let B : Sym → Type 0 = λ y. OneRead X n (read Back S y) n' k' in
      record {
        set_is = set;
        start_is = ap (λ x. cond b (Some i) x) os ∙ sym (start_turn X.machine r i a l T b set f);
        walk = subst Q (sym z) (subst P (sym (back_reads_turn X.machine r i a l S at))
            (walk_snoc X m (back_reads X.machine (drop (i + 1) r)) n k (read Back S (get_or r i a)) n' k' (subst A jw h.walk) (subst B is s)));
      }

  -- an empty set holds no last position, and a scan does not begin in one
  true_T : (b : Bool) → b ≡ true → T b
  true_T b e = subst T (sym e) tt

  pub empty_no_last : Proper X → (S : PositionSet) → X.machine.empty S ≡ true → X.machine.last S ≡ false
  empty_no_last law S e =
      ⊎_elim
      (λ (h : X.machine.last S ≡ true). let w = (law.lawful.last_is S).0 (true_T _ h) in absurd ((law.lawful.empty_is S).0 (true_T _ e) w.0 w.1))
      (λ (h : X.machine.last S ≡ false). h)
      (cases_Bool (X.machine.last S))

  pub begin_not_empty : Proper X → X.machine.empty X.machine.begin ≡ false
  begin_not_empty law =
      ⊎_elim
      (λ (h : X.machine.empty X.machine.begin ≡ true). absurd ((law.lawful.empty_is X.machine.begin).0 (true_T _ h) 0 ((law.lawful.begin_is 0).1 refl)))
      (λ (h : X.machine.empty X.machine.begin ≡ false). h)
      (cases_Bool (X.machine.empty X.machine.begin))

  pub ahead_begun : Proper X → (m : Memory PositionSet) (r : List Sym) (from : ℕ) (S : PositionSet) (k : Tallies) → S ≡ X.machine.begin → k ≡ zeros → AheadSoFar X m r from from S from m k
  ahead_begun law m r from S k s z =
      let e : X.machine.empty S ≡ false = ap X.machine.empty s ∙ begin_not_empty law in
      record {
        done = [];
        walk = (refl, z);
        rest = ap (λ x. ahead_reads X.machine x (drop from r)) (sym s) ∙ ap (λ x. cond x [] (ahead_reads X.machine S (drop from r))) (sym e);
        end_is = ap (λ x. far X.machine from from x (drop from r)) (sym s) ∙ ap (λ x. cond x from (far X.machine from from S (drop from r))) (sym e);
      }

  end_same : (x l : Bool) (i b c : ℕ) → (x ≡ true → l ≡ false) → cond x b c ≡ cond x (cond l i b) c
  end_same true l i b c h = ap (λ y. cond y i b) (sym (h refl))
  end_same false l i b c h = refl

  pub ahead_next : Proper X → (m : Memory PositionSet) (r : List Sym) (from i : ℕ) (a : Sym) (S T : PositionSet) (end : ℕ) (n n' : Memory PositionSet) (k k' kk : Tallies) (l : Bool) → i < length r → a ≡ get_or r i a → X.machine.empty S ≡ false → AheadSoFar X m r from i S end n k → OneRead X n (read Ahead S a) n' k' → T ≡ leads X Ahead S a → X.machine.last T ≡ l → kk ≡ both k k' → AheadSoFar X m r from (i + 1) T (cond l (i + 1) end) n' kk
  ahead_next law m r from i a S T end n n' k k' kk l lt is live h s t f z =
      let mach = X.machine in
      let x : Read Sym PositionSet = read Ahead S (get_or r i a) in
      let e : T ≡ mach.ahead S (get_or r i a) = t ∙ ap (mach.ahead S) is in
      let left : List (Read Sym PositionSet) = cond (mach.empty T) [] (ahead_reads mach T (drop (i + 1) r)) in
      let B : Sym → Type 0 = λ y. OneRead X n (read Ahead S y) n' k' in
      let Q : Tallies → Type 0 = λ y. Walk X m (h.done ++ (x ∷ [])) n' y in
      record {
        done = h.done ++ (x ∷ []);
        walk = subst Q (sym z) (walk_snoc X m h.done n k x n' k' h.walk (subst B is s));
        rest = h.rest ∙ ap (λ y. h.done ++ cond y [] (ahead_reads mach S (drop i r))) live
            ∙ ap (λ y. h.done ++ y) (ahead_reads_turn mach r i a lt S T e (mach.empty T) refl) ∙ sym (append_assoc h.done (x ∷ []) left);
        end_is = h.end_is ∙ ap (λ y. cond y end (far mach end i S (drop i r))) live ∙ far_turn mach r i a lt S T e (mach.empty T) refl end l f
            ∙ end_same (mach.empty T) l (i + 1) end (far mach (cond l (i + 1) end) (i + 1) T (drop (i + 1) r)) (λ y. sym f ∙ empty_no_last law T y);
      }

  -- it is over where nothing is left to read
  over_reads : (b : Bool) (xs : List (Read Sym PositionSet)) → (b ≡ true) ⊎ (xs ≡ []) → cond b [] xs ≡ []
  over_reads true xs h = refl
  over_reads false xs (inl e) = absurd (both_ways false refl e)
  over_reads false xs (inr e) = e

  over_end : (b : Bool) (e f : ℕ) → (b ≡ true) ⊎ (f ≡ e) → cond b e f ≡ e
  over_end true e f h = refl
  over_end false e f (inl x) = absurd (both_ways false refl x)
  over_end false e f (inr x) = x

  pub record AheadOver (m : Memory PositionSet) (r : List Sym) (from end : ℕ) (n : Memory PositionSet) (k : Tallies) : Type 0 where
    pub walk : Walk X m (ahead_reads X.machine X.machine.begin (drop from r)) n k
    pub end_is : end ≡ far X.machine from from X.machine.begin (drop from r)

  stopped : (at n : ℕ) (x : Bool) → at ≤ n → (ltb at n && not x) ≡ false → (x ≡ true) ⊎ (at ≡ n)
  stopped at n true l e = inl refl
  stopped at n false l e =
      ⊎_elim (λ (h : at < n). absurd (both_ways (ltb at n && true) e (ap (λ y. y && true) (lt-ltb at n h)))) (λ (h : n ≤ at). inr (omega arith)) (cases_lt at n)

  pub ahead_over : (m : Memory PositionSet) (r : List Sym) (from at : ℕ) (S : PositionSet) (end : ℕ) (n : Memory PositionSet) (k : Tallies) → at ≤ length r → (ltb at (length r) && not (X.machine.empty S)) ≡ false → AheadSoFar X m r from at S end n k → AheadOver m r from end n k
  ahead_over m r from at S end n k l e h =
      let mach = X.machine in
      let d : at ≡ length r → drop at r ≡ [] = λ q. ap (λ x. drop x r) q ∙ drop-length r in
      let how = stopped at (length r) (mach.empty S) l e in
      let P : List (Read Sym PositionSet) → Type 0 = λ xs. Walk X m xs n k in
      let none : cond (mach.empty S) [] (ahead_reads mach S (drop at r)) ≡ [] = over_reads (mach.empty S) (ahead_reads mach S (drop at r)) (⊎_elim inl (λ (q : at ≡ length r). inr (ap (ahead_reads mach S) (d q))) how) in
      record {
        walk = subst P (sym (h.rest ∙ ap (λ y. h.done ++ y) none ∙ append-nil h.done)) h.walk;
        end_is = sym (h.end_is ∙ over_end (mach.empty S) end (far mach end at S (drop at r)) (⊎_elim inl (λ (q : at ≡ length r). inr (ap (far mach end at S) (d q))) how));
      }

module _ {M S P Sym : Type 0} (automaton : AutomatonMeaning M Sym) (shelf : ShelfMeaning S) (policy : PolicyMeaning P) (laws : (m : M) → Proper (automaton.subject m)) where
  -- a searcher stays ready
  pub ready_next : (s s' : Scanner M S P) → Ready automaton shelf policy s → Kept automaton shelf s s' → Sound (subject automaton s) (memory shelf policy s') → Ready automaton shelf policy s'
  ready_next s s' r k ok =
      record {
        sound = subst (λ y. Sound (automaton.subject y.now) (memory shelf policy s')) (sym k.automaton_same) ok;
        counts = k.counts r.counts;
        flags = subst (λ y. Flagged (automaton.subject y.now).machine s') (sym k.automaton_same) (k.flags r.flags);
      }

  pub backed_begun : (s : Scanner M S P) (r : List Sym) (scan : Scan (Option ℕ)) → Ready automaton shelf policy s → scan.at ≡ length r → scan.cursor.set ≡ (subject automaton s).machine.begin → scan.cursor.place ≡ None → scan.mark ≡ None → tallied scan.counts ≡ zeros → Backed automaton shelf policy (memory shelf policy s) r scan s
  backed_begun s r scan ready e b p o z =
      record {
        ready = ready;
        held = λ q h. absurd (none_some q (sym p ∙ h));
        so_far = subst (λ y. BackSoFar (subject automaton s) (memory shelf policy s) r scan.at scan.cursor.set y (memory shelf policy s) (tallied scan.counts)) (sym o) (back_begun (subject automaton s) (memory shelf policy s) r scan.at scan.cursor.set (tallied scan.counts) e b z);
      }
    where
      none_some : (q : ℕ) → None ≡ Some q → ⊥
      none_some q h = let z : ◌≡◌ {A = ℕ} 0 1 = cc in omega arith

  pub backed_next : (s s' : Scanner M S P) (m : Memory PositionSet) (r : List Sym) (scan scan' : Scan (Option ℕ)) (a : Sym) (move : Move) (b : Bool) → Kept automaton shelf s s' → scan.at ≡ scan'.at + 1 → scan'.at < length r → a ≡ get_or r scan'.at a → (Ready automaton shelf policy s → At Back (memory shelf policy s) scan.cursor → Moved (subject automaton s) (memory shelf policy s) Back scan.cursor.set a (memory shelf policy s') move) → scan'.cursor ≡ move.cursor → b ≡ (subject automaton s').machine.first move.cursor.set → scan'.mark ≡ cond b (Some scan'.at) scan.mark → tallied scan'.counts ≡ both (tallied scan.counts) (tallied move.counts) → Backed automaton shelf policy m r scan s → Backed automaton shelf policy m r scan' s'
  backed_next s s' m r scan scan' a move b k e l is go cur f o z h =
      let X = subject automaton s in
      let law : Proper X = laws s.automaton.now in
      let w = go h.ready h.held in
      let n' = memory shelf policy s' in
      let ok : Sound X n' = (reading X law (memory shelf policy s) (read Back scan.cursor.set a) n' (tallied move.counts) h.ready.sound w.one).sound in
      let first : X.machine.first move.cursor.set ≡ b = sym (f ∙ ap (λ y. (automaton.subject y.now).machine.first move.cursor.set) k.automaton_same) in
      let far : BackSoFar X m r scan'.at move.cursor.set (cond b (Some scan'.at) scan.mark) n' (tallied scan'.counts) =
      back_next X m r scan'.at scan.at a scan.cursor.set move.cursor.set scan.mark (memory shelf policy s) n' (tallied scan.counts) (tallied move.counts) (tallied scan'.counts) b e l is h.so_far w.one w.to first z in
      record {
        ready = ready_next s s' h.ready k ok;
        held = subst (λ y. At Back n' y) (sym cur) w.at;
        so_far = subst (λ y. BackSoFar (automaton.subject y.now) m r scan'.at scan'.cursor.set scan'.mark n' (tallied scan'.counts)) (sym k.automaton_same)
            (subst (λ y. BackSoFar X m r scan'.at y.set scan'.mark n' (tallied scan'.counts)) (sym cur)
            (subst (λ y. BackSoFar X m r scan'.at move.cursor.set y n' (tallied scan'.counts)) (sym o) far));
      }

  pub aheaded_begun : (s : Scanner M S P) (r : List Sym) (from : ℕ) (scan : Scan ℕ) → Ready automaton shelf policy s → scan.at ≡ from → scan.mark ≡ from → scan.cursor.set ≡ (subject automaton s).machine.begin → scan.cursor.place ≡ None → tallied scan.counts ≡ zeros → Aheaded automaton shelf policy (memory shelf policy s) r from scan s
  aheaded_begun s r from scan ready e f b p z =
      let X = subject automaton s in
      let m = memory shelf policy s in
      record {
        ready = ready;
        held = λ q h. absurd (none_some q (sym p ∙ h));
        so_far = subst (λ y. AheadSoFar X m r from y scan.cursor.set scan.mark m (tallied scan.counts)) (sym e)
            (subst (λ y. AheadSoFar X m r from from scan.cursor.set y m (tallied scan.counts)) (sym f) (ahead_begun X (laws s.automaton.now) m r from scan.cursor.set (tallied scan.counts) b z));
      }
    where
      none_some : (q : ℕ) → None ≡ Some q → ⊥
      none_some q h = let z : ◌≡◌ {A = ℕ} 0 1 = cc in omega arith

  pub aheaded_next : (s s' : Scanner M S P) (m : Memory PositionSet) (r : List Sym) (from : ℕ) (scan scan' : Scan ℕ) (a : Sym) (move : Move) (l : Bool) → Kept automaton shelf s s' → scan'.at ≡ scan.at + 1 → scan.at < length r → a ≡ get_or r scan.at a → (Ready automaton shelf policy s → At Ahead (memory shelf policy s) scan.cursor → Moved (subject automaton s) (memory shelf policy s) Ahead scan.cursor.set a (memory shelf policy s') move) → scan'.cursor ≡ move.cursor → l ≡ (subject automaton s').machine.last move.cursor.set → scan'.mark ≡ cond l (scan.at + 1) scan.mark → tallied scan'.counts ≡ both (tallied scan.counts) (tallied move.counts) → (subject automaton s).machine.empty scan.cursor.set ≡ false → Aheaded automaton shelf policy m r from scan s → Aheaded automaton shelf policy m r from scan' s'
  aheaded_next s s' m r from scan scan' a move l k e lt is go cur f o z live h =
      let X = subject automaton s in
      let law : Proper X = laws s.automaton.now in
      let w = go h.ready h.held in
      let n' = memory shelf policy s' in
      let ok : Sound X n' = (reading X law (memory shelf policy s) (read Ahead scan.cursor.set a) n' (tallied move.counts) h.ready.sound w.one).sound in
      let last : X.machine.last move.cursor.set ≡ l = sym (f ∙ ap (λ y. (automaton.subject y.now).machine.last move.cursor.set) k.automaton_same) in
      let next : AheadSoFar X m r from (scan.at + 1) move.cursor.set (cond l (scan.at + 1) scan.mark) n' (tallied scan'.counts) =
      ahead_next X law m r from scan.at a scan.cursor.set move.cursor.set scan.mark (memory shelf policy s) n' (tallied scan.counts) (tallied move.counts) (tallied scan'.counts) l lt is live h.so_far w.one w.to last z in
      record {
        ready = ready_next s s' h.ready k ok;
        held = subst (λ y. At Ahead n' y) (sym cur) w.at;
        so_far = subst (λ y. AheadSoFar (automaton.subject y.now) m r from scan'.at scan'.cursor.set scan'.mark n' (tallied scan'.counts)) (sym k.automaton_same)
            (subst (λ y. AheadSoFar X m r from scan'.at y.set scan'.mark n' (tallied scan'.counts)) (sym cur)
            (subst (λ y. AheadSoFar X m r from scan'.at move.cursor.set y n' (tallied scan'.counts)) (sym o)
            (subst (λ y. AheadSoFar X m r from y move.cursor.set (cond l (scan.at + 1) scan.mark) n' (tallied scan'.counts)) (sym e) next)));
      }

  pub reached : (s : Scanner M S P) (m : Memory PositionSet) (r : List Sym) (from : ℕ) (scan : Scan ℕ) → scan.at ≤ length r → (ltb scan.at (length r) && not ((subject automaton s).machine.empty scan.cursor.set)) ≡ false → Aheaded automaton shelf policy m r from scan s → Reached automaton shelf policy m r from scan s
  reached s m r from scan l e h =
      let o = ahead_over (subject automaton s) m r from scan.at scan.cursor.set scan.mark (memory shelf policy s) (tallied scan.counts) l e h.so_far in
      record { ready = h.ready; walk = o.walk; end_is = o.end_is }
