-- The reader refuses at what is first met.
use Rattle.std.proofs.Common.{◌≡◌, ℕ, zero, suc, true, List, [], ◌∷◌, ◌++◌, sym, refl, ap, ◌∙◌, subst, append_assoc, append-nil, arith}
use Rattle.items.specs.declared.Item.{Item}
use Rattle.items.specs.declared.Sign.{Sign}
use Rattle.items.specs.declared.Placed.{Placed}
use Rattle.pattern.specs.declared.Code.{Code}
use Rattle.refusal.specs.declared.Cause.{Cause}
use Rattle.grammar.specs.declared.frame.Repeats.{Repeats}
use Rattle.grammar.specs.declared.frame.Repeats.TheVariants.{Empty, One, Many}
use Rattle.grammar.specs.declared.frame.Frame.{Frame}
use Rattle.grammar.specs.Grammar.{at}
use Rattle.grammar.specs.Parse.{State, Step, framed, state, more, grown, joins, ends, operand, opened, closed, done, step, last, after, run, start, parse}
use Rattle.grammar.specs.Parse.Outcome.{accepted, refused}
use Rattle.grammar.specs.Parse.Step.{go, wrong}
use Rattle.grammar.specs.Refusals.{IsPattern, Begins, Due, closings, Blocked, Unfinished, FirstMet}
use Rattle.grammar.specs.Refusals.Due.{front, bar, opening}
use Rattle.grammar.specs.Refusals.FirstMet.{inside, at_end}
use Rattle.grammar.proofs.Complete.{Filled, more_filled, wants, complete}
use Rattle.grammar.proofs.Sound.{accepted_is}

abbrev pub AllFilled : List Frame → Type 0
AllFilled [] = Unit {0}
AllFilled (f ∷ st) = Filled f.repeats × AllFilled st

-- the reader comes to the state s behind u
pub record Reached (u : List Placed) (s : State) : Type 0 where
  pub same : (len : ℕ) (ys : List Placed) → run len start (u ++ ys) ≡ run len s ys
  pub due : s.frame.repeats ≡ Empty → Due u
  pub filled : AllFilled s.around

not_empty : {A : Type 0} (k : Repeats) → Filled k → k ≡ Empty → A
not_empty Empty h e = absurd h
not_empty One h e = let z : ◌≡◌ {A = ℕ} 0 1 = cc in let no : ⊥ = omega arith in absurd no
not_empty Many h e = let z : ◌≡◌ {A = ℕ} 0 1 = cc in let no : ⊥ = omega arith in absurd no

pub clash : {A : Type 0} (k : Cause) (p : ℕ) (cs : List Code) → refused k p ≡ accepted cs → A
clash k p cs e = let z : ◌≡◌ {A = ℕ} 0 1 = cc in let no : ⊥ = omega arith in absurd no

-- from any state some items lead to acceptance: an atom, and an atom behind each closing
completes : (len n : ℕ) (cs : List Code) (f : Frame) (st : List Frame) → (ys : List Placed) × (ds : List Code) × (run len (state n cs f st) ys ≡ accepted ds)
completes len n cs f [] =
    let c = cs ++ joins f.repeats ++ Code.Atom ∷ [] in
    (at Item.Atom 0 ∷ [], c ++ ends (grown f), wants len (more f.repeats) (go (state n (c ++ ends (grown f)) (grown f) [])) len (λ t. accepted t.codes) (more_filled f.repeats))
completes len n cs f (g ∷ st) =
    let c = cs ++ joins f.repeats ++ Code.Atom ∷ [] in
    let x = completes len (suc n) (c ++ ends (grown f)) g st in (
      at Item.Atom 0 ∷ at (Item.Sign Sign.Close) 0 ∷ x.0,
      x.1,
      wants len (more f.repeats) (go (state (suc n) (c ++ ends (grown f)) g st)) 0 (λ t. run len t x.0) (more_filled f.repeats) ∙ x.2,
    )

-- closings alone do, where the chains have a repeat
closes_all : (len n : ℕ) (cs : List Code) (f : Frame) (st : List Frame) → Filled f.repeats → AllFilled st → (m : ℕ) × (ds : List Code) × (run len (state n cs f st) (closings m) ≡ accepted ds)
closes_all len n cs f [] h a = (0, cs ++ ends f, wants len f.repeats (go (state n (cs ++ ends f) f [])) len (λ t. accepted t.codes) h)
closes_all len n cs f (g ∷ st) h a =
    let x = closes_all len (suc n) (cs ++ ends f) g st a.0 a.1 in
    (suc x.0, x.1, wants len f.repeats (go (state (suc n) (cs ++ ends f) g st)) 0 (λ t. run len t (closings x.0)) h ∙ x.2)

pub begins : (u : List Placed) (s : State) → Reached u s → Begins u
begins u s r =
    let x = completes 0 s.room s.codes s.frame s.around in
    (x.0, (x.1, accepted_is 32 0 (u ++ x.0) x.1 (r.same 0 x.0 ∙ x.2)))

-- what holds behind a step
abbrev Fine : List Placed → Step → Type 0
Fine u (go s) = (s.frame.repeats ≡ Empty → Due u) × AllFilled s.around
Fine u (wrong k) = Unit {0}

fine_wanted : (u : List Placed) (k : Repeats) (d : Step) → (Filled k → Fine u d) → Fine u (operand k d)
fine_wanted u Empty d h = tt
fine_wanted u One d h = h tt
fine_wanted u Many d h = h tt

fine_opened : (u : List Placed) (p n : ℕ) (cs : List Code) (f : Frame) (st : List Frame) → AllFilled st → Fine (u ++ at (Item.Sign Sign.Open) p ∷ []) (opened n cs f st)
fine_opened u p zero cs f st a = tt
fine_opened u p (suc n) cs f st a = (λ e. opening u p, (more_filled f.repeats, a))

fine_closed : (u : List Placed) (n : ℕ) (cs : List Code) (st : List Frame) → AllFilled st → Fine u (closed n cs st)
fine_closed u n cs [] a = tt
fine_closed u n cs (f ∷ st) a = (λ e. not_empty f.repeats a.0 e, a.1)

fine : (u : List Placed) (i : Item) (p : ℕ) (s : State) → AllFilled s.around → Fine (u ++ at i p ∷ []) (step s i)
fine u Item.Atom p s a = (λ e. not_empty (more s.frame.repeats) (more_filled s.frame.repeats) e, a)
fine u (Item.Sign Sign.Open) p s a = fine_opened u p s.room s.codes s.frame s.around a
fine u (Item.Sign Sign.Close) p s a = fine_wanted (u ++ at (Item.Sign Sign.Close) p ∷ []) s.frame.repeats (closed s.room (s.codes ++ ends s.frame) s.around) λ h. fine_closed (u ++ at (Item.Sign Sign.Close) p ∷ []) s.room (s.codes ++ ends s.frame) s.around a
fine u (Item.Sign Sign.Bar) p s a = fine_wanted (u ++ at (Item.Sign Sign.Bar) p ∷ []) s.frame.repeats (go (state s.room (s.codes ++ ends s.frame) (framed true Empty) s.around)) λ h. (λ e. bar u p, a)
fine u (Item.Sign Sign.Star) p s a = fine_wanted (u ++ at (Item.Sign Sign.Star) p ∷ []) s.frame.repeats (go (state s.room (s.codes ++ Code.Star ∷ []) s.frame s.around)) λ h. (λ e. not_empty s.frame.repeats h e, a)
fine u (Item.Sign Sign.Plus) p s a = fine_wanted (u ++ at (Item.Sign Sign.Plus) p ∷ []) s.frame.repeats (go (state s.room (s.codes ++ Code.Plus ∷ []) s.frame s.around)) λ h. (λ e. not_empty s.frame.repeats h e, a)
fine u (Item.Sign Sign.Query) p s a = fine_wanted (u ++ at (Item.Sign Sign.Query) p ∷ []) s.frame.repeats (go (state s.room (s.codes ++ Code.Maybe ∷ []) s.frame s.around)) λ h. (λ e. not_empty s.frame.repeats h e, a)

-- what a refusing step says
abbrev pub Blamed : List Placed → Item → Step → Type 0
Blamed u i (go s) = Unit {0}
Blamed u i (wrong k) = Blocked k u i

blamed_wanted : (u : List Placed) (i : Item) (k : Repeats) (d : Step) → (k ≡ Empty → Due u) → (i ≡ (Item.Sign Sign.Open) → ⊥) → (Filled k → Blamed u i d) → Blamed u i (operand k d)
blamed_wanted u i Empty d due ne h = Blocked.operand (due refl) ne
blamed_wanted u i One d due ne h = h tt
blamed_wanted u i Many d due ne h = h tt

blamed_opened : (u : List Placed) (n : ℕ) (cs : List Code) (f : Frame) (st : List Frame) → Blamed u (Item.Sign Sign.Open) (opened n cs f st)
blamed_opened u zero cs f st = Blocked.depth
blamed_opened u (suc n) cs f st = tt

blamed_closed : (u : List Placed) (n m : ℕ) (cs ds : List Code) (f : Frame) (st : List Frame) → Filled f.repeats
    → ((len : ℕ) (ys : List Placed) → run len start (u ++ ys) ≡ run len (state n ds f st) ys) → Blamed u (Item.Sign Sign.Close) (closed m cs st)
blamed_closed u n m cs ds f [] h same =
    Blocked.closing (ds ++ ends f, accepted_is 32 0 u (ds ++ ends f) (ap (run 0 start) (sym (append-nil u)) ∙ same 0 [] ∙ wants 0 f.repeats (go (state n (ds ++ ends f) f [])) 0 (λ t. accepted t.codes) h))
blamed_closed u n m cs ds f (g ∷ st) h same = tt

other : (i : Item) → (n : Item → ℕ) → n i ≡ 0 → n (Item.Sign Sign.Open) ≡ 1 → i ≡ (Item.Sign Sign.Open) → ⊥
other i n a b e = let c = ap n e in omega (arith, a, b, c)

openings : Item → ℕ
openings Item.Atom = 0
openings (Item.Sign Sign.Open) = 1
openings (Item.Sign Sign.Close) = 0
openings (Item.Sign Sign.Bar) = 0
openings (Item.Sign Sign.Star) = 0
openings (Item.Sign Sign.Plus) = 0
openings (Item.Sign Sign.Query) = 0

pub blamed : (u : List Placed) (i : Item) (s : State) → Reached u s → Blamed u i (step s i)
unfolding openings
blamed u Item.Atom s r = tt
blamed u (Item.Sign Sign.Open) s r = blamed_opened u s.room s.codes s.frame s.around
blamed u (Item.Sign Sign.Close) s r = blamed_wanted u (Item.Sign Sign.Close) s.frame.repeats (closed s.room (s.codes ++ ends s.frame) s.around) r.due (other (Item.Sign Sign.Close) openings refl refl) λ h. blamed_closed u s.room s.room (s.codes ++ ends s.frame) s.codes s.frame s.around h r.same
blamed u (Item.Sign Sign.Bar) s r = blamed_wanted u (Item.Sign Sign.Bar) s.frame.repeats (go (state s.room (s.codes ++ ends s.frame) (framed true Empty) s.around)) r.due (other (Item.Sign Sign.Bar) openings refl refl) λ h. tt
blamed u (Item.Sign Sign.Star) s r = blamed_wanted u (Item.Sign Sign.Star) s.frame.repeats (go (state s.room (s.codes ++ Code.Star ∷ []) s.frame s.around)) r.due (other (Item.Sign Sign.Star) openings refl refl) λ h. tt
blamed u (Item.Sign Sign.Plus) s r = blamed_wanted u (Item.Sign Sign.Plus) s.frame.repeats (go (state s.room (s.codes ++ Code.Plus ∷ []) s.frame s.around)) r.due (other (Item.Sign Sign.Plus) openings refl refl) λ h. tt
blamed u (Item.Sign Sign.Query) s r = blamed_wanted u (Item.Sign Sign.Query) s.frame.repeats (go (state s.room (s.codes ++ Code.Maybe ∷ []) s.frame s.around)) r.due (other (Item.Sign Sign.Query) openings refl refl) λ h. tt

-- one item on
pub onto : (u : List Placed) (x : Placed) (s t : State) → Reached u s → step s x.item ≡ go t → Reached (u ++ x ∷ []) t
onto u x s t r e =
    let g : Fine (u ++ x ∷ []) (go t) = subst (Fine (u ++ x ∷ [])) e (fine u x.item x.place s r.filled) in
    record {
      same = λ len ys. ap (run len start) (append_assoc u (x ∷ []) ys) ∙ r.same len (x ∷ ys) ∙ ap (λ z. after z x.place (λ v. run len v ys)) e;
      due = g.0;
      filled = g.1;
    }

-- no pattern begins with an item that is refused
stuck : (u : List Placed) (x : Placed) (s : State) (k : Cause) → Reached u s → step s x.item ≡ wrong k → Begins (u ++ x ∷ []) → ⊥
stuck u x s k r e (ys, (cs, p)) =
    clash k x.place cs
    (sym (ap (run 0 start) (append_assoc u (x ∷ []) ys) ∙ r.same 0 (x ∷ ys) ∙ ap (λ z. after z x.place (λ v. run 0 v ys)) e) ∙ complete 0 p)

-- what a refusal at the end says
abbrev pub Ended : List Placed → Step → Type 0
Ended u (go s) = Unit {0}
Ended u (wrong k) = Unfinished k u

ended_done : (u : List Placed) (n : ℕ) (cs : List Code) (f : Frame) (st : List Frame) (t : State) → Filled f.repeats → AllFilled st
    → ((len : ℕ) (ys : List Placed) → run len start (u ++ ys) ≡ run len (state n cs f st) ys) → Ended u (done t st)
ended_done u n cs f [] t h a same = tt
ended_done u n cs f (g ∷ st) t h a same =
    let x = closes_all 0 (suc n) (cs ++ ends f) g st a.0 a.1 in
    let e : run 0 start (u ++ closings (suc x.0)) ≡ accepted x.1 =
    same 0 (closings (suc x.0)) ∙ wants 0 f.repeats (go (state (suc n) (cs ++ ends f) g st)) 0 (λ t. run 0 t (closings x.0)) h ∙ x.2 in
    Unfinished.group x.0 (x.1, accepted_is 32 0 (u ++ closings (suc x.0)) x.1 e)

ended_wanted : (u : List Placed) (k : Repeats) (d : Step) → (k ≡ Empty → Due u) → (Filled k → Ended u d) → Ended u (operand k d)
ended_wanted u Empty d due h = Unfinished.operand (due refl)
ended_wanted u One d due h = h tt
ended_wanted u Many d due h = h tt

pub reached_none : Reached [] start
reached_none = record { same = λ len ys. refl; due = λ e. front; filled = tt }

pub ended : (u : List Placed) (s : State) → Reached u s → Ended u (last s)
ended u s r =
    let t = state s.room (s.codes ++ ends s.frame) s.frame s.around in
    ended_wanted u s.frame.repeats (done t s.around) r.due (λ h. ended_done u s.room s.codes s.frame s.around t h r.filled r.same)

module _ (len : ℕ) (k : Cause) (p : ℕ) where
  end_met : (u : List Placed) (d : Step) → Ended u d → after d len (λ t. accepted t.codes) ≡ refused k p → Begins u → (IsPattern u → ⊥) → FirstMet len u k p
  end_met u (go t) b e y n = clash k p t.codes (sym e)
  end_met u (wrong j) b e y n =
      let a : j ≡ k = cc in
      let q : len ≡ p = cc in
      subst (FirstMet len u k) q (subst (λ z. FirstMet len u z len) a (at_end u y n b))

  step_met : (u : List Placed) (x : Placed) (xs : List Placed) (s : State) (d : Step) → Reached u s → step s x.item ≡ d → Blamed u x.item d → after d x.place (λ t. run len t xs) ≡ refused k p
      → ((t : State) → Reached (u ++ x ∷ []) t → run len t xs ≡ refused k p → FirstMet len (u ++ x ∷ [] ++ xs) k p) → FirstMet len (u ++ x ∷ xs) k p
  step_met u x xs s (go t) r e b q rest = subst (λ z. FirstMet len z k p) (append_assoc u (x ∷ []) xs) (rest t (onto u x s t r e) q)
  step_met u x xs s (wrong j) r e b q rest =
      let a : j ≡ k = cc in
      let l : x.place ≡ p = cc in
      subst (FirstMet len (u ++ x ∷ xs) k) l (subst (λ z. FirstMet len (u ++ x ∷ xs) z x.place) a (inside u x xs (begins u s r) (stuck u x s j r e) b))

  met : (xs u : List Placed) (s : State) → Reached u s → run len s xs ≡ refused k p → FirstMet len (u ++ xs) k p
  met [] u s r e =
      let same : run len start u ≡ refused k p = ap (run len start) (sym (append-nil u)) ∙ r.same len [] ∙ e in
      subst (λ z. FirstMet len z k p) (sym (append-nil u)) (end_met u (last s) (ended u s r) e (begins u s r) (λ i. clash k p i.0 (sym same ∙ complete len i.1)))
  met (x ∷ xs) u s r e = step_met u x xs s (step s x.item) r refl (blamed u x.item s r) e (met xs (u ++ x ∷ []))

-- a refusal is what is first met
pub first_met : (xs : List Placed) (len : ℕ) (k : Cause) (p : ℕ) → parse xs len ≡ refused k p → FirstMet len xs k p
first_met xs len k p e = met len k p xs [] start reached_none e
