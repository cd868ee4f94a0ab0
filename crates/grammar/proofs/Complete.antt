-- What the reader does over a pattern, a chain, a repeat and a unit; so it accepts each pattern.
use Rattle.std.proofs.Common.{◌≡◌, ℕ, zero, suc, ◌+◌, ◌≤◌, Bool, true, false, List, [], ◌∷◌, ◌++◌, sym, refl, ap, ◌∙◌, append_assoc, append-nil, arith}
use Rattle.items.specs.declared.Item.{Item}
use Rattle.items.specs.declared.Sign.{Sign}
use Rattle.items.specs.declared.Placed.{Placed}
use Rattle.pattern.specs.declared.Code.{Code}
use Rattle.grammar.specs.declared.frame.Repeats.{Repeats}
use Rattle.grammar.specs.declared.frame.Repeats.TheVariants.{Empty, One, Many}
use Rattle.grammar.specs.declared.frame.Frame.{Frame}
use Rattle.grammar.specs.Grammar.{at, Pattern, Chain, Repeat, Single}
use Rattle.grammar.specs.Grammar.Pattern.{chain, choice}
use Rattle.grammar.specs.Grammar.Chain.{repeat, join}
use Rattle.grammar.specs.Grammar.Repeat.{unit, star, plus, maybe}
use Rattle.grammar.specs.Grammar.Single.{atom, group}
use Rattle.grammar.specs.Parse.{Outcome, State, Step, framed, state, more, grown, joins, ends, operand, after, run}
use Rattle.grammar.specs.Parse.Outcome.{accepted}
use Rattle.grammar.specs.Parse.Step.{go}

-- the chain has a repeat
abbrev pub Filled : Repeats → Type 0
Filled Empty = ⊥
Filled One = Unit {0}
Filled Many = Unit {0}

pub more_filled : (k : Repeats) → Filled (more k)
more_filled Empty = tt
more_filled One = tt
more_filled Many = tt

pub operand_there : (k : Repeats) (s : Step) → Filled k → operand k s ≡ s
operand_there Empty s h = absurd h
operand_there One s h = refl
operand_there Many s h = refl

more_more : (k : Repeats) → Filled k → more k ≡ Many
more_more Empty h = absurd h
more_more One h = refl
more_more Many h = refl

module _ (len : ℕ) where
  record AfterChain (n : ℕ) (w : List Placed) (c : List Code) (cs : List Code) (b : Bool) (st : List Frame) : Type 0 where
    codes : List Code
    kind : Repeats
    filled : Filled kind
    whole : codes ++ joins kind ≡ cs ++ c
    runs : (rest : List Placed) → run len (state n cs (framed b Empty) st) (w ++ rest) ≡ run len (state n codes (framed b kind) st) rest

  record AfterPattern (n : ℕ) (w : List Placed) (c : List Code) (cs : List Code) (st : List Frame) : Type 0 where
    codes : List Code
    frame : Frame
    filled : Filled frame.repeats
    whole : codes ++ ends frame ≡ cs ++ c
    runs : (rest : List Placed) → run len (state n cs (framed false Empty) st) (w ++ rest) ≡ run len (state n codes frame st) rest

  -- a step that wants a repeat, where there is one
  pub wants : (k : Repeats) (s : Step) (p : ℕ) (next : State → Outcome) → Filled k → after (operand k s) p next ≡ after s p next
  wants k s p next h = ap (λ u. after u p next) (operand_there k s h)

  mutual
    pattern_runs : {n : ℕ} {w : List Placed} {c : List Code} → Pattern n w c → (cs : List Code) (st : List Frame) → AfterPattern n w c cs st
    pattern_runs (chain r) cs st =
        let x = chain_runs r cs false st in
        record { codes = x.codes; frame = framed false x.kind; filled = x.filled; whole = ap (λ z. x.codes ++ z) (append-nil (joins x.kind)) ∙ x.whole; runs = x.runs }
    pattern_runs (choice {n} {u} {v} {a} {b} l p r) cs st =
        let x = pattern_runs l cs st in
        let y = chain_runs r (cs ++ a) true st in
        record {
          codes = y.codes;
          frame = framed true y.kind;
          filled = y.filled;
          whole = sym (append_assoc y.codes (joins y.kind) (Code.Choice ∷ [])) ∙ ap (λ z. z ++ Code.Choice ∷ []) y.whole ∙ simp append_assoc;
          runs = λ rest.
              ap (run len (state n cs (framed false Empty) st)) (append_assoc u (at (Item.Sign Sign.Bar) p ∷ v) rest)
              ∙ x.runs (at (Item.Sign Sign.Bar) p ∷ v ++ rest)
              ∙ wants x.frame.repeats (go (state n (x.codes ++ ends x.frame) (framed true Empty) st)) p (λ t. run len t (v ++ rest)) x.filled
              ∙ ap (λ z. run len (state n z (framed true Empty) st) (v ++ rest)) x.whole
              ∙ y.runs rest;
        }

    chain_runs : {n : ℕ} {w : List Placed} {c : List Code} → Chain n w c → (cs : List Code) (b : Bool) (st : List Frame) → AfterChain n w c cs b st
    chain_runs (repeat {n} {w} {c} r) cs b st =
        record {
          codes = cs ++ c;
          kind = One;
          filled = tt;
          whole = append-nil (cs ++ c);
          runs = λ rest. repeat_runs r cs (framed b Empty) st rest ∙ ap (λ z. run len (state n (z ++ c) (framed b One) st) rest) (append-nil cs);
        }
    chain_runs (join {n} {u} {v} {a} {b = c} l r) cs b st =
        let x = chain_runs l cs b st in
        record {
          codes = cs ++ a ++ c;
          kind = Many;
          filled = tt;
          whole = simp append_assoc;
          runs = λ rest.
              ap (run len (state n cs (framed b Empty) st)) (append_assoc u v rest)
              ∙ x.runs (v ++ rest)
              ∙ repeat_runs r x.codes (framed b x.kind) st rest
              ∙ ap (λ z. run len (state n (z ++ c) (framed b (more x.kind)) st) rest) x.whole
              ∙ ap (λ k. run len (state n (cs ++ a ++ c) (framed b k) st) rest) (more_more x.kind x.filled);
        }

    repeat_runs : {n : ℕ} {w : List Placed} {c : List Code} → Repeat n w c → (cs : List Code) (f : Frame) (st : List Frame) (rest : List Placed)
        → run len (state n cs f st) (w ++ rest) ≡ run len (state n (cs ++ joins f.repeats ++ c) (grown f) st) rest
    repeat_runs (unit s) cs f st rest = single_runs s cs f st rest
    repeat_runs (star {n} {w} {c} r p) cs f st rest =
        ap (run len (state n cs f st)) (append_assoc w (at (Item.Sign Sign.Star) p ∷ []) rest)
        ∙ repeat_runs r cs f st (at (Item.Sign Sign.Star) p ∷ rest)
        ∙ wants (more f.repeats) (go (state n (cs ++ joins f.repeats ++ c ++ Code.Star ∷ []) (grown f) st)) p (λ t. run len t rest) (more_filled f.repeats)
        ∙ ap (λ z. run len (state n z (grown f) st) rest) (append_assoc (cs ++ joins f.repeats) c (Code.Star ∷ []))
    repeat_runs (plus {n} {w} {c} r p) cs f st rest =
        ap (run len (state n cs f st)) (append_assoc w (at (Item.Sign Sign.Plus) p ∷ []) rest)
        ∙ repeat_runs r cs f st (at (Item.Sign Sign.Plus) p ∷ rest)
        ∙ wants (more f.repeats) (go (state n (cs ++ joins f.repeats ++ c ++ Code.Plus ∷ []) (grown f) st)) p (λ t. run len t rest) (more_filled f.repeats)
        ∙ ap (λ z. run len (state n z (grown f) st) rest) (append_assoc (cs ++ joins f.repeats) c (Code.Plus ∷ []))
    repeat_runs (maybe {n} {w} {c} r p) cs f st rest =
        ap (run len (state n cs f st)) (append_assoc w (at (Item.Sign Sign.Query) p ∷ []) rest)
        ∙ repeat_runs r cs f st (at (Item.Sign Sign.Query) p ∷ rest)
        ∙ wants (more f.repeats) (go (state n (cs ++ joins f.repeats ++ c ++ Code.Maybe ∷ []) (grown f) st)) p (λ t. run len t rest) (more_filled f.repeats)
        ∙ ap (λ z. run len (state n z (grown f) st) rest) (append_assoc (cs ++ joins f.repeats) c (Code.Maybe ∷ []))

    single_runs : {n : ℕ} {w : List Placed} {c : List Code} → Single n w c → (cs : List Code) (f : Frame) (st : List Frame) (rest : List Placed)
        → run len (state n cs f st) (w ++ rest) ≡ run len (state n (cs ++ joins f.repeats ++ c) (grown f) st) rest
    single_runs (atom p) cs f st rest = refl
    single_runs (group {n} {w} {c} p q r) cs f st rest =
        let x = pattern_runs r (cs ++ joins f.repeats) (grown f ∷ st) in
        ap (run len (state n (cs ++ joins f.repeats) (framed false Empty) (grown f ∷ st))) (append_assoc w (at (Item.Sign Sign.Close) q ∷ []) rest)
        ∙ x.runs (at (Item.Sign Sign.Close) q ∷ rest)
        ∙ wants x.frame.repeats (go (state (suc n) (x.codes ++ ends x.frame) (grown f) st)) q (λ t. run len t rest) x.filled
        ∙ ap (λ z. run len (state (suc n) z (grown f) st) rest) x.whole

  -- the reader accepts a pattern, with its codes
  pub complete : {n : ℕ} {w : List Placed} {c : List Code} → Pattern n w c → run len (state n [] (framed false Empty) []) w ≡ accepted c
  complete {n} {w} {c} r =
      let x = pattern_runs r [] [] in
      ap (run len (state n [] (framed false Empty) [])) (sym (append-nil w))
      ∙ x.runs []
      ∙ wants x.frame.repeats (go (state n (x.codes ++ ends x.frame) x.frame [])) len (λ t. accepted t.codes) x.filled
      ∙ ap accepted x.whole

mutual
  raise_pattern : {n : ℕ} {w : List Placed} {c : List Code} → Pattern n w c → (m : ℕ) → n ≤ m → Pattern m w c
  raise_pattern (chain r) m h = chain (raise_chained r m h)
  raise_pattern (choice l p r) m h = choice (raise_pattern l m h) p (raise_chained r m h)

  raise_chained : {n : ℕ} {w : List Placed} {c : List Code} → Chain n w c → (m : ℕ) → n ≤ m → Chain m w c
  raise_chained (repeat r) m h = repeat (raise_repeat r m h)
  raise_chained (join l r) m h = join (raise_chained l m h) (raise_repeat r m h)

  raise_repeat : {n : ℕ} {w : List Placed} {c : List Code} → Repeat n w c → (m : ℕ) → n ≤ m → Repeat m w c
  raise_repeat (unit s) m h = unit (raise_single s m h)
  raise_repeat (star r p) m h = star (raise_repeat r m h) p
  raise_repeat (plus r p) m h = plus (raise_repeat r m h) p
  raise_repeat (maybe r p) m h = maybe (raise_repeat r m h) p

  raise_single : {n : ℕ} {w : List Placed} {c : List Code} → Single n w c → (m : ℕ) → n ≤ m → Single m w c
  raise_single (atom p) m h = atom p
  raise_single (group {n} p q r) zero h = let no : ⊥ = omega arith in absurd no
  raise_single (group {n} p q r) (suc m) h = group p q (raise_pattern r m (omega arith))

-- a text has at most one code list
pub one_list : (n m : ℕ) (w : List Placed) (a b : List Code) → Pattern n w a → Pattern m w b → a ≡ b
one_list n m w a b l r =
    let x = complete 0 (raise_pattern l (n + m) (omega arith)) in
    let y = complete 0 (raise_pattern r (n + m) (omega arith)) in
    cc
