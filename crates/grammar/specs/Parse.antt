-- What the parser makes of a row of items: one item after another, with a stack of the patterns that it is in.
use Rattle.std.specs.Prelude.{ℕ, zero, suc, Bool, true, false, List, [], ◌∷◌, ◌++◌, Ok, Err, Result}
use Rattle.items.specs.declared.Item.{Item}
use Rattle.items.specs.declared.Sign.{Sign}
use Rattle.items.specs.declared.Placed.{Placed}
use Rattle.pattern.specs.declared.Code.{Code}
use Rattle.refusal.specs.declared.Cause.{Cause}
use Rattle.refusal.specs.declared.Cause.TheVariants.{TooDeep, MissingOperand, UnmatchedClosing, UnclosedGroup}
use Rattle.refusal.specs.declared.Refusal.{Refusal}
use Rattle.grammar.specs.declared.frame.Repeats.{Repeats}
use Rattle.grammar.specs.declared.frame.Repeats.TheVariants.{Empty, One, Many}
use Rattle.grammar.specs.declared.frame.Frame.{Frame}

-- the pattern's codes, or why and where it is refused
pub data Outcome : Type 0 where
  accepted : List Code → Outcome
  refused : Cause → ℕ → Outcome

-- the outcome that a call tells of, with the codes that it collected
abbrev pub outcome : Result (Unit {0}) Refusal → List Code → Outcome
outcome (Ok u) cs = accepted cs
outcome (Err e) cs = refused e.cause e.place

-- how many more parentheses may open, the codes so far, the innermost pattern, and the patterns around it as they are once it closes
pub record State : Type 0 where
  pub room : ℕ
  pub codes : List Code
  pub frame : Frame
  pub around : List Frame

-- the next state, or why there is none
pub data Step : Type 0 where
  go : State → Step
  wrong : Cause → Step

abbrev pub framed : Bool → Repeats → Frame
framed b c = record { branches = b; repeats = c }

abbrev pub state : ℕ → List Code → Frame → List Frame → State
state n cs f st = record { room = n; codes = cs; frame = f; around = st }

-- a chain with one more repeat
abbrev pub more : Repeats → Repeats
more Empty = One
more One = Many
more Many = Many

-- a repeat is wanted
abbrev pub operand_in : Repeats → Result (Unit {0}) Cause
operand_in Empty = Err MissingOperand
operand_in One = Ok tt
operand_in Many = Ok tt

abbrev pub grown : Frame → Frame
grown f = framed f.branches (more f.repeats)

-- the join that waits until the last repeat of a chain is complete
abbrev pub joins : Repeats → List Code
joins Empty = []
joins One = []
joins Many = Code.Join ∷ []

-- the choice that waits until the branch is complete
abbrev pub choices : Bool → List Code
choices false = []
choices true = Code.Choice ∷ []

-- the codes that end a branch
abbrev pub ends : Frame → List Code
ends f = joins f.repeats ++ choices f.branches

-- a step that wants a repeat before it
abbrev pub operand : Repeats → Step → Step
operand Empty s = wrong MissingOperand
operand One s = s
operand Many s = s

-- an opening: a fresh pattern inside
abbrev pub opened : ℕ → List Code → Frame → List Frame → Step
opened zero cs f st = wrong TooDeep
opened (suc n) cs f st = go (state n (cs ++ joins f.repeats) (framed false Empty) (grown f ∷ st))

-- a closing, behind the codes that end the group: the pattern around goes on
abbrev pub closed : ℕ → List Code → List Frame → Step
closed n cs [] = wrong UnmatchedClosing
closed n cs (f ∷ st) = go (state (suc n) cs f st)

-- the end of the text
abbrev pub done : State → List Frame → Step
done s [] = go s
done s (f ∷ st) = wrong UnclosedGroup

-- a repeat takes one sign more
abbrev pub repeated : State → Code → Step
repeated s d = operand s.frame.repeats (go (state s.room (s.codes ++ d ∷ []) s.frame s.around))

abbrev pub step : State → Item → Step
step s Item.Atom = go (state s.room (s.codes ++ joins s.frame.repeats ++ Code.Atom ∷ []) (grown s.frame) s.around)
step s (Item.Sign Sign.Open) = opened s.room s.codes s.frame s.around
step s (Item.Sign Sign.Close) = operand s.frame.repeats (closed s.room (s.codes ++ ends s.frame) s.around)
step s (Item.Sign Sign.Bar) = operand s.frame.repeats (go (state s.room (s.codes ++ ends s.frame) (framed true Empty) s.around))
step s (Item.Sign Sign.Star) = repeated s Code.Star
step s (Item.Sign Sign.Plus) = repeated s Code.Plus
step s (Item.Sign Sign.Query) = repeated s Code.Maybe

-- at the end of the text
abbrev pub last : State → Step
last s = operand s.frame.repeats (done (state s.room (s.codes ++ ends s.frame) s.frame s.around) s.around)

-- a step, and what comes behind it; p is the place of what a wrong step met
abbrev pub after : Step → ℕ → (State → Outcome) → Outcome
after (go s) p next = next s
after (wrong c) p next = refused c p

-- the items from a state on, of a text of that length
abbrev pub run : ℕ → State → List Placed → Outcome
run len s [] = after (last s) len (λ t. accepted t.codes)
run len s (x ∷ xs) = after (step s x.item) x.place (λ t. run len t xs)

abbrev pub start : State
start = state 32 [] (framed false Empty) []

abbrev pub parse : List Placed → ℕ → Outcome
parse xs len = run len start xs
