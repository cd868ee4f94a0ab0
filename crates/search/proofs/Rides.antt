-- The turns of a run over known steps.
use Rattle.std.proofs.Common.{◌≡◌, ℕ, ◌+◌, ◌<◌, Bool, true, false, cond, List, length, get_or, Some, Option, sym, refl, ap, ◌∙◌, subst, arith}
use Rattle.sets.specs.Places.{member}
use Rattle.sets.specs.Positions.{PositionSet}
use Rattle.memory.specs.declared.shelf.Shelf.{Ghosts as ShelfMeaning}
use Rattle.memory.specs.declared.policy.Policy.{Ghosts as PolicyMeaning}
use Rattle.theory.specs.declared.Direction.{Direction}
use Rattle.theory.specs.declared.Direction.TheVariants.{Ahead, Back}
use Rattle.law.specs.Subject.{leads, Proper}
use Rattle.law.specs.Memory.{Memory, Sound}
use Rattle.law.specs.Reading.{Counts as Tallies, both, OneRead}
use Rattle.law.proofs.Readings.{known_read}
use Rattle.automaton.specs.declared.automaton.Automaton.{Ghosts as AutomatonMeaning}
use Rattle.search.specs.declared.scanner.Scanner.{Scanner}
use Rattle.search.specs.declared.scanner.Scan.{Scan}
use Rattle.search.specs.declared.scanner.Run.{Run}
use Rattle.search.specs.Counted.{tallied, known_more}
use Rattle.search.specs.Remembered.{no_set, state, read, memory, subject, Ready}
use Rattle.search.specs.Scanning.{BackSoFar, Backed, RidingBack, AheadSoFar, Aheaded, RidingAhead}
use Rattle.search.proofs.Views.{is_here, with_policy, told_policy, kept_policy}
use Rattle.search.proofs.Moves.{known_target}
use Rattle.search.proofs.Scans.{ready_next, back_next, ahead_next}

some_one : (a b : ℕ) → Some a ≡ Some b → a ≡ b
some_one a b e = cc

abbrev one_known : Tallies
one_known = record { reads = 1; known = 1; built = 0; plain = 0; dropped = 0 }

tallies_of : (a a' b b' c c' d d' e e' : ℕ) → a ≡ a' → b ≡ b' → c ≡ c' → d ≡ d' → e ≡ e' → ◌≡◌ {A = Tallies} (record { reads = a; known = b; built = c; plain = d; dropped = e }) (record { reads = a'; known = b'; built = c'; plain = d'; dropped = e' })
tallies_of a a' b b' c c' d d' e e' p q r s t = rw (p, q, r, s, t)

pub one_more : (k : Tallies) (d e : ℕ) → e ≡ d + 1 → known_more k e ≡ both (known_more k d) one_known
one_more k d e z =
    tallies_of (k.reads + e) ((k.reads + d) + 1) (k.known + e) ((k.known + d) + 1) k.built (k.built + 0) k.plain (k.plain + 0) k.dropped (k.dropped + 0)
    (omega arith) (omega arith) (omega arith) (omega arith) (omega arith)

pub none_more : (k : Tallies) (d : ℕ) → d ≡ 0 → known_more k d ≡ k
none_more k d z = tallies_of (k.reads + d) k.reads (k.known + d) k.known k.built k.built k.plain k.plain k.dropped k.dropped (omega arith) (omega arith) refl refl refl

module _ {M S P Sym : Type 0} (automaton : AutomatonMeaning M Sym) (shelf : ShelfMeaning S) (policy : PolicyMeaning P) (laws : (m : M) → Proper (automaton.subject m)) where
  -- a known step from a live place
  record Step (s : Scanner M S P) (d : Direction) (p : ℕ) (a : Sym) (t : ℕ) : Type 0 where
    pub one : OneRead (subject automaton s) (memory shelf policy s) (read d (get_or s.sets p no_set) a) (memory shelf policy s) one_known
    pub to : get_or s.sets t no_set ≡ leads (subject automaton s) d (get_or s.sets p no_set) a
    pub on : member s.live t ≡ true
    pub there : (memory shelf policy s).live t ≡ Some (state d (get_or s.sets t no_set))

  step : (s : Scanner M S P) (d : Direction) (p : ℕ) (a : Sym) (c t : ℕ) → Ready automaton shelf policy s → (subject automaton s).fit a ≡ true → c ≡ (subject automaton s).class_of a → Some t ≡ shelf.steps s.shelf p c → (memory shelf policy s).live p ≡ Some (state d (get_or s.sets p no_set)) → Step s d p a t
  step s d p a c t ready fit cl know here =
      let X = subject automaton s in
      let m = memory shelf policy s in
      let S₀ = get_or s.sets p no_set in
      let k : m.known p (X.class_of a) ≡ Some t = ap (m.known p) (sym cl) ∙ sym know in
      let there = known_target X m d S₀ a p t ready.sound fit here k in
      let h = is_here (member s.live) (member s.back) s.sets t (leads X d S₀ a) d there in
      record {
        one = known_read X m (read d S₀ a) p t fit here k;
        to = h.holds;
        on = h.on;
        there = there ∙ ap (λ x. Some (state d x)) (sym h.holds);
      }

  pub riding_next : (s : Scanner M S P) (m : Memory PositionSet) (r : List Sym) (run run' : Run (Option ℕ)) (k kk : Tallies) (a : Sym) (c t : ℕ) (b : Bool) → run.at ≡ run'.at + 1 → run'.at < length r → a ≡ get_or r run'.at a → (subject automaton s).fit a ≡ true → c ≡ (subject automaton s).class_of a → Some t ≡ shelf.steps s.shelf run.place c → run'.place ≡ t → b ≡ member s.begins t → run'.mark ≡ cond b (Some run'.at) run.mark → kk ≡ both k one_known → RidingBack automaton shelf policy m r run k s → RidingBack automaton shelf policy m r run' kk s
  riding_next s m r run run' k kk a c t b e l is fit cl know to f o z h =
      let X = subject automaton s in
      let n = memory shelf policy s in
      let w = step s Back run.place a c t h.ready fit cl know h.held in
      let next : BackSoFar X m r run'.at (get_or s.sets t no_set) (cond b (Some run'.at) run.mark) n kk =
      back_next X m r run'.at run.at a (get_or s.sets run.place no_set) (get_or s.sets t no_set) run.mark n n k one_known kk b e l is h.so_far w.one w.to (sym (f ∙ h.ready.flags.begins t w.on)) z in
      record {
        ready = h.ready;
        held = subst (λ y. n.live y ≡ Some (state Back (get_or s.sets y no_set))) (sym to) w.there;
        so_far = subst (λ y. BackSoFar X m r run'.at (get_or s.sets y no_set) run'.mark n kk) (sym to) (subst (λ y. BackSoFar X m r run'.at (get_or s.sets t no_set) y n kk) (sym o) next);
      }

  -- a run from a scan, and a scan from a run
  pub riding_from : (s : Scanner M S P) (m : Memory PositionSet) (r : List Sym) (scan : Scan (Option ℕ)) (run : Run (Option ℕ)) (p : ℕ) → scan.cursor.place ≡ Some p → run.place ≡ p → run.at ≡ scan.at → run.mark ≡ scan.mark → Backed automaton shelf policy m r scan s → RidingBack automaton shelf policy m r run (tallied scan.counts) s
  riding_from s m r scan run p is at_place at st h =
      let X = subject automaton s in
      let n = memory shelf policy s in
      let here = h.held p is in
      let set = (is_here (member s.live) (member s.back) s.sets p scan.cursor.set Back here).holds in
      record {
        ready = h.ready;
        held = subst (λ y. n.live y ≡ Some (state Back (get_or s.sets y no_set))) (sym at_place) (here ∙ ap (λ x. Some (state Back x)) (sym set));
        so_far = subst (λ y. BackSoFar X m r run.at (get_or s.sets y no_set) run.mark n (tallied scan.counts)) (sym at_place)
            (subst (λ y. BackSoFar X m r run.at y run.mark n (tallied scan.counts)) (sym set)
            (subst (λ y. BackSoFar X m r y scan.cursor.set run.mark n (tallied scan.counts)) (sym at)
            (subst (λ y. BackSoFar X m r scan.at scan.cursor.set y n (tallied scan.counts)) (sym st) h.so_far)));
      }

  pub backed_from : (s : Scanner M S P) (q : P) (m : Memory PositionSet) (r : List Sym) (scan : Scan (Option ℕ)) (run : Run (Option ℕ)) (k : Tallies) → policy.live q ≡ policy.live s.policy → scan.cursor.set ≡ get_or s.sets run.place no_set → scan.cursor.place ≡ Some run.place → scan.at ≡ run.at → scan.mark ≡ run.mark → tallied scan.counts ≡ k → RidingBack automaton shelf policy m r run k s → Backed automaton shelf policy m r scan (with_policy s q)
  backed_from s q m r scan run k told set place at st z h =
      let X = subject automaton s in
      let n = memory shelf policy s in
      let n' = memory shelf policy (with_policy s q) in
      let same : n' ≡ n = told_policy shelf policy s q told in
      record {
        ready = ready_next automaton shelf policy laws s (with_policy s q) h.ready (kept_policy automaton shelf s q) (subst (λ y. Sound X y) (sym same) h.ready.sound);
        held = λ p e.
            let pp : run.place ≡ p = some_one run.place p (sym place ∙ e) in
            ap n.live (sym pp) ∙ h.held ∙ ap (λ x. Some (state Back x)) (sym set);
        so_far = subst (λ y. BackSoFar X m r scan.at scan.cursor.set scan.mark y (tallied scan.counts)) (sym same)
            (subst (λ y. BackSoFar X m r scan.at scan.cursor.set scan.mark n y) (sym z)
            (subst (λ y. BackSoFar X m r y scan.cursor.set scan.mark n k) (sym at)
            (subst (λ y. BackSoFar X m r run.at y scan.mark n k) (sym set)
            (subst (λ y. BackSoFar X m r run.at (get_or s.sets run.place no_set) y n k) (sym st) h.so_far))));
      }

  pub riding_ahead_next : (s : Scanner M S P) (m : Memory PositionSet) (r : List Sym) (from : ℕ) (run run' : Run ℕ) (k kk : Tallies) (a : Sym) (c t : ℕ) (b : Bool) → run'.at ≡ run.at + 1 → run.at < length r → member s.empties run.place ≡ false → a ≡ get_or r run.at a → (subject automaton s).fit a ≡ true → c ≡ (subject automaton s).class_of a → Some t ≡ shelf.steps s.shelf run.place c → run'.place ≡ t → b ≡ member s.ends t → run'.mark ≡ cond b (run.at + 1) run.mark → kk ≡ both k one_known → RidingAhead automaton shelf policy m r from run k s → RidingAhead automaton shelf policy m r from run' kk s
  riding_ahead_next s m r from run run' k kk a c t b e l live is fit cl know to f o z h =
      let X = subject automaton s in
      let n = memory shelf policy s in
      let p = run.place in
      let w = step s Ahead p a c t h.ready fit cl know h.held in
      let on = (is_here (member s.live) (member s.back) s.sets p (get_or s.sets p no_set) Ahead h.held).on in
      let going : X.machine.empty (get_or s.sets p no_set) ≡ false = sym (h.ready.flags.empties p on) ∙ live in
      let next : AheadSoFar X m r from (run.at + 1) (get_or s.sets t no_set) (cond b (run.at + 1) run.mark) n kk =
      ahead_next X (laws s.automaton.now) m r from run.at a (get_or s.sets p no_set) (get_or s.sets t no_set) run.mark n n k one_known kk b l is going h.so_far w.one w.to (sym (f ∙ h.ready.flags.ends t w.on)) z in
      record {
        ready = h.ready;
        held = subst (λ y. n.live y ≡ Some (state Ahead (get_or s.sets y no_set))) (sym to) w.there;
        so_far = subst (λ y. AheadSoFar X m r from run'.at (get_or s.sets y no_set) run'.mark n kk) (sym to)
            (subst (λ y. AheadSoFar X m r from run'.at (get_or s.sets t no_set) y n kk) (sym o)
            (subst (λ y. AheadSoFar X m r from y (get_or s.sets t no_set) (cond b (run.at + 1) run.mark) n kk) (sym e) next));
      }

  pub riding_ahead_from : (s : Scanner M S P) (m : Memory PositionSet) (r : List Sym) (from : ℕ) (scan : Scan ℕ) (run : Run ℕ) (p : ℕ) → scan.cursor.place ≡ Some p → run.place ≡ p → run.at ≡ scan.at → run.mark ≡ scan.mark → Aheaded automaton shelf policy m r from scan s → RidingAhead automaton shelf policy m r from run (tallied scan.counts) s
  riding_ahead_from s m r from scan run p is at_place at st h =
      let X = subject automaton s in
      let n = memory shelf policy s in
      let here = h.held p is in
      let set = (is_here (member s.live) (member s.back) s.sets p scan.cursor.set Ahead here).holds in
      record {
        ready = h.ready;
        held = subst (λ y. n.live y ≡ Some (state Ahead (get_or s.sets y no_set))) (sym at_place) (here ∙ ap (λ x. Some (state Ahead x)) (sym set));
        so_far = subst (λ y. AheadSoFar X m r from run.at (get_or s.sets y no_set) run.mark n (tallied scan.counts)) (sym at_place)
            (subst (λ y. AheadSoFar X m r from run.at y run.mark n (tallied scan.counts)) (sym set)
            (subst (λ y. AheadSoFar X m r from y scan.cursor.set run.mark n (tallied scan.counts)) (sym at)
            (subst (λ y. AheadSoFar X m r from scan.at scan.cursor.set y n (tallied scan.counts)) (sym st) h.so_far)));
      }

  pub aheaded_from : (s : Scanner M S P) (q : P) (m : Memory PositionSet) (r : List Sym) (from : ℕ) (scan : Scan ℕ) (run : Run ℕ) (k : Tallies) → policy.live q ≡ policy.live s.policy → scan.cursor.set ≡ get_or s.sets run.place no_set → scan.cursor.place ≡ Some run.place → scan.at ≡ run.at → scan.mark ≡ run.mark → tallied scan.counts ≡ k → RidingAhead automaton shelf policy m r from run k s → Aheaded automaton shelf policy m r from scan (with_policy s q)
  aheaded_from s q m r from scan run k told set place at st z h =
      let X = subject automaton s in
      let n = memory shelf policy s in
      let n' = memory shelf policy (with_policy s q) in
      let same : n' ≡ n = told_policy shelf policy s q told in
      record {
        ready = ready_next automaton shelf policy laws s (with_policy s q) h.ready (kept_policy automaton shelf s q) (subst (λ y. Sound X y) (sym same) h.ready.sound);
        held = λ p e.
            let pp : run.place ≡ p = some_one run.place p (sym place ∙ e) in
            ap n.live (sym pp) ∙ h.held ∙ ap (λ x. Some (state Ahead x)) (sym set);
        so_far = subst (λ y. AheadSoFar X m r from scan.at scan.cursor.set scan.mark y (tallied scan.counts)) (sym same)
            (subst (λ y. AheadSoFar X m r from scan.at scan.cursor.set scan.mark n y) (sym z)
            (subst (λ y. AheadSoFar X m r from y scan.cursor.set scan.mark n k) (sym at)
            (subst (λ y. AheadSoFar X m r from run.at y scan.mark n k) (sym set)
            (subst (λ y. AheadSoFar X m r from run.at (get_or s.sets run.place no_set) y n k) (sym st) h.so_far))));
      }
