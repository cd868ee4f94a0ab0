-- A row of items has one refusal at most: what is first met is what the parser refuses.
use Rattle.std.proofs.Common.{◌≡◌, ℕ, zero, suc, true, false, List, [], ◌∷◌, ◌++◌, sym, refl, ap, ◌∙◌, subst, append_assoc, append-nil, arith}
use Rattle.items.specs.declared.Item.{Item}
use Rattle.items.specs.declared.Sign.{Sign}
use Rattle.items.specs.declared.Placed.{Placed}
use Rattle.pattern.specs.declared.Code.{Code}
use Rattle.refusal.specs.declared.Cause.{Cause}
use Rattle.grammar.specs.declared.frame.Repeats.{Repeats}
use Rattle.grammar.specs.declared.frame.Repeats.TheVariants.{Empty, One, Many}
use Rattle.grammar.specs.declared.frame.Frame.{Frame}
use Rattle.grammar.specs.Grammar.{sign, Pattern}
use Rattle.grammar.specs.Parse.{State, Step, framed, state, grown, joins, ends, operand, opened, step, last, after, run, start, parse}
use Rattle.grammar.specs.Parse.Outcome.{accepted, refused}
use Rattle.grammar.specs.Parse.Step.{go, wrong}
use Rattle.grammar.specs.Refusals.{IsPattern, Begins, Due, closings, Blocked, Unfinished, FirstMet}
use Rattle.grammar.specs.Refusals.Due.{front, bar, opening}
use Rattle.grammar.specs.Refusals.FirstMet.{inside, at_end}
use Rattle.grammar.proofs.Complete.{complete}
use Rattle.grammar.proofs.First.{Reached, Blamed, Ended, clash, begins, blamed, ended, onto, reached_none}
use Rattle.grammar.proofs.Sound.{accepted_is}

-- a step that is not refused
record Goes (s : State) (i : Item) : Type 0 where
  next : State
  is : step s i ≡ go next

goes_by : (s : State) (x : Placed) (ys : List Placed) (cs : List Code) (d : Step) → step s x.item ≡ d → after d x.place (λ t. run 0 t ys) ≡ accepted cs → Goes s x.item
goes_by s x ys cs (go t) e a = record { next = t; is = e }
goes_by s x ys cs (wrong k) e a = clash k x.place cs a

goes : (s : State) (x : Placed) (ys : List Placed) (cs : List Code) → run 0 s (x ∷ ys) ≡ accepted cs → Goes s x.item
goes s x ys cs a = goes_by s x ys cs (step s x.item) refl a

-- the parser comes to a state behind what a pattern begins with
abbrev Arrived : List Placed → Type 0
Arrived u = (s : State) × Reached u s

arrive : (v u ys : List Placed) (cs : List Code) (s : State) → Reached u s → run 0 s (v ++ ys) ≡ accepted cs → Arrived (u ++ v)
arrive [] u ys cs s r a = (s, subst (λ z. Reached z s) (sym (append-nil u)) r)
arrive (x ∷ v) u ys cs s r a =
    let g = goes s x (v ++ ys) cs a in
    let b : run 0 g.next (v ++ ys) ≡ accepted cs = sym (ap (λ z. after z x.place (λ t. run 0 t (v ++ ys))) g.is) ∙ a in
    subst Arrived (append_assoc u (x ∷ []) v) (arrive v (u ++ x ∷ []) ys cs g.next (onto u x s g.next r g.is) b)

arrived : (u : List Placed) → Begins u → Arrived u
arrived u (ys, (cs, p)) = arrive u [] ys cs start reached_none (complete 0 p)

-- where an operand is due, the chain has no repeat
record Waits (u : List Placed) : Type 0 where
  now : State
  reached : Reached u now
  empty : now.frame.repeats ≡ Empty

bar_empty : (k : Repeats) (s t : State) → s.frame.repeats ≡ Empty → operand k (go s) ≡ go t → t.frame.repeats ≡ Empty
bar_empty Empty s t h e = let z : ◌≡◌ {A = ℕ} 0 1 = cc in let no : ⊥ = omega arith in absurd no
bar_empty One s t h e = let q : s ≡ t = cc in subst (λ z. z.frame.repeats ≡ Empty) q h
bar_empty Many s t h e = let q : s ≡ t = cc in subst (λ z. z.frame.repeats ≡ Empty) q h

open_empty : (n : ℕ) (cs : List Code) (f : Frame) (st : List Frame) (t : State) → opened n cs f st ≡ go t → t.frame.repeats ≡ Empty
open_empty zero cs f st t e = let z : ◌≡◌ {A = ℕ} 0 1 = cc in let no : ⊥ = omega arith in absurd no
open_empty (suc n) cs f st t e = bar_empty One (state n (cs ++ joins f.repeats) (framed false Empty) (grown f ∷ st)) t refl e

-- what begins, one item less
split : (w : List Placed) (x : Placed) → Begins (w ++ x ∷ []) → Begins w
split w x (zs, (cs, p)) = (x ∷ zs, (cs, subst (λ l. Pattern 32 l cs) (append_assoc w (x ∷ []) zs) p))

-- the item behind goes on
beyond : (w : List Placed) (x : Placed) (s : State) → Reached w s → Begins (w ++ x ∷ []) → Goes s x.item
beyond w x s r (zs, (cs, p)) = goes s x zs cs (sym (ap (run 0 start) (append_assoc w (x ∷ []) zs) ∙ r.same 0 (x ∷ zs)) ∙ complete 0 p)

waits : (u : List Placed) → Due u → Begins u → Waits u
waits u front b = record { now = start; reached = reached_none; empty = refl }
waits u (bar w p) b =
    let a = arrived w (split w (sign Sign.Bar p) b) in
    let g = beyond w (sign Sign.Bar p) a.0 a.1 b in
    let s = a.0 in
    record { now = g.next; reached = onto w (sign Sign.Bar p) s g.next a.1 g.is; empty = bar_empty s.frame.repeats (state s.room (s.codes ++ ends s.frame) (framed true Empty) s.around) g.next refl g.is }
waits u (opening w p) b =
    let a = arrived w (split w (sign Sign.Open p) b) in
    let g = beyond w (sign Sign.Open p) a.0 a.1 b in
    let s = a.0 in
    record { now = g.next; reached = onto w (sign Sign.Open p) s g.next a.1 g.is; empty = open_empty s.room s.codes s.frame s.around g.next g.is }

lacks : (k : Repeats) (d : Step) → k ≡ Empty → operand k d ≡ wrong Cause.MissingOperand
lacks k d e = ap (λ z. operand z d) e

-- so it is no pattern, and closing parentheses make it none
due_pattern : (u : List Placed) → Due u → IsPattern u → ⊥
due_pattern u d (cs, p) =
    let w = waits u d ([], (cs, subst (λ z. Pattern 32 z cs) (sym (append-nil u)) p)) in
    let s = w.now in
    let e : run 0 start (u ++ []) ≡ refused Cause.MissingOperand 0 = w.reached.same 0 [] ∙ ap (λ z. after z 0 (λ t. accepted t.codes)) (lacks s.frame.repeats _ w.empty) in
    clash Cause.MissingOperand 0 cs (sym e ∙ ap (run 0 start) (append-nil u) ∙ complete 0 p)

due_closing : (u ys : List Placed) (q : ℕ) → Due u → IsPattern (u ++ sign Sign.Close q ∷ ys) → ⊥
due_closing u ys q d (cs, p) =
    let w = waits u d (sign Sign.Close q ∷ ys, (cs, p)) in
    let s = w.now in
    let e : run 0 start (u ++ sign Sign.Close q ∷ ys) ≡ refused Cause.MissingOperand q = w.reached.same 0 (sign Sign.Close q ∷ ys) ∙ ap (λ z. after z q (λ t. run 0 t ys)) (lacks s.frame.repeats _ w.empty) in
    clash Cause.MissingOperand q cs (sym e ∙ complete 0 p)

-- an item is blocked for one cause
same_block : (u : List Placed) (i : Item) (j k : Cause) → Blocked j u i → Blocked k u i → j ≡ k
same_block u i j k Blocked.depth Blocked.depth = refl
same_block u i j k Blocked.depth (Blocked.operand d ne) = absurd (ne refl)
same_block u i j k (Blocked.operand d ne) Blocked.depth = absurd (ne refl)
same_block u i j k (Blocked.operand d ne) (Blocked.operand c me) = refl
same_block u i j k (Blocked.operand d ne) (Blocked.closing p) = absurd (due_pattern u d p)
same_block u i j k (Blocked.closing p) (Blocked.operand d ne) = absurd (due_pattern u d p)
same_block u i j k (Blocked.closing p) (Blocked.closing q) = refl

-- and the end for one
same_end : (u : List Placed) (j k : Cause) → Unfinished j u → Unfinished k u → j ≡ k
same_end u j k (Unfinished.operand d) (Unfinished.operand c) = refl
same_end u j k (Unfinished.operand d) (Unfinished.group m p) = absurd (due_closing u (closings m) 0 d p)
same_end u j k (Unfinished.group m p) (Unfinished.operand d) = absurd (due_closing u (closings m) 0 d p)
same_end u j k (Unfinished.group m p) (Unfinished.group n q) = refl

module _ (len : ℕ) (u : List Placed) (s : State) (r : Reached u s) (k : Cause) where
  blocked_so : (x : Placed) (v : List Placed) (d : Step) → step s x.item ≡ d → Blamed u x.item d → (Begins (u ++ x ∷ []) → ⊥) → Blocked k u x.item → after d x.place (λ t. run len t v) ≡ refused k x.place
  blocked_so x v (go t) e b not y = absurd (not (begins (u ++ x ∷ []) t (onto u x s t r e)))
  blocked_so x v (wrong j) e b not y = ap (λ z. refused z x.place) (same_block u x.item j k b y)

  unfinished_so : (d : Step) → last s ≡ d → Ended u d → (IsPattern u → ⊥) → Unfinished k u → after d len (λ t. accepted t.codes) ≡ refused k len
  unfinished_so (go t) e b not y =
      absurd
      (not
      (t.codes, accepted_is 32 len u t.codes (ap (run len start) (sym (append-nil u)) ∙ r.same len [] ∙ ap (λ z. after z len (λ t. accepted t.codes)) e)))
  unfinished_so (wrong j) e b not y = ap (λ z. refused z len) (same_end u j k b y)

-- what is first met is what the parser refuses
pub met_refused : (len : ℕ) (xs : List Placed) (k : Cause) (p : ℕ) → FirstMet len xs k p → parse xs len ≡ refused k p
met_refused len xs k p (inside u x v b not y) =
    let a = arrived u b in
    a.1.same len (x ∷ v) ∙ blocked_so len u a.0 a.1 k x v (step a.0 x.item) refl (blamed u x.item a.0 a.1) not y
met_refused len xs k p (at_end ys b not y) =
    let a = arrived xs b in
    ap (run len start) (sym (append-nil xs)) ∙ a.1.same len [] ∙ unfinished_so len xs a.0 a.1 k (last a.0) refl (ended xs a.0 a.1) not y
