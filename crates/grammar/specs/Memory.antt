-- The parser's memory as a state of the definition.
use Rattle.std.specs.Prelude.{◌≡◌, ℕ, ◌+◌, ◌-◌, ◌≤◌, List, [], ◌∷◌, ◌++◌, length, reverse, Ok, Err, Result}
use Rattle.collector.specs.declared.Collector.{Collector}
use Rattle.collector.specs.Pushing.{held, size}
use Rattle.pattern.specs.declared.Code.{Code}
use Rattle.refusal.specs.declared.Cause.{Cause}
use Rattle.grammar.specs.declared.frame.Repeats.{Repeats}
use Rattle.grammar.specs.declared.frame.Repeats.TheVariants.{Empty, One, Many}
use Rattle.grammar.specs.declared.frame.Frame.{Frame}
use Rattle.grammar.specs.declared.parser.Parser.{Parser}
use Rattle.grammar.specs.Parse.{State, Step, state, ends}
use Rattle.grammar.specs.Parse.Step.{go, wrong}

-- the entries are written behind those that were there
pub record Wrote {A : Type 0} (before after : Collector A) (xs : List A) : Type 0 where
  pub entries : held after ≡ held before ++ xs
  pub count : after.used ≡ before.used + length xs
  pub same_size : size after ≡ size before
  pub lender : after.entries.ghost_name ≡ before.entries.ghost_name

-- the state that the memory stands for
abbrev pub state_of : Parser → State
state_of p = state (32 - length p.around.items) (held p.codes.now) p.frame (reverse p.around.items)

-- the step that a result tells of
abbrev pub told : Result (Unit {0}) Cause → State → Step
told (Ok u) s = go s
told (Err c) s = wrong c

-- there is room for the codes
abbrev pub Room : Parser → List Code → Type 0
Room p cs = p.codes.now.used + length cs ≤ size p.codes.now

-- the codes are written, and nothing else changes
pub record Emitted (before after : Parser) (cs : List Code) : Type 0 where
  pub wrote : Wrote before.codes.now after.codes.now cs
  pub holder : after.codes.ghost_name ≡ before.codes.ghost_name
  pub frame : after.frame ≡ before.frame
  pub around : after.around ≡ before.around

-- the same collector, over the same slice
pub record SameCodes (before after : Parser) : Type 0 where
  pub same_size : size after.codes.now ≡ size before.codes.now
  pub lender : after.codes.now.entries.ghost_name ≡ before.codes.now.entries.ghost_name
  pub holder : after.codes.ghost_name ≡ before.codes.ghost_name

-- the memory is what the step says
pub record Moved (d : Step) (r : Result (Unit {0}) Cause) (before after : Parser) : Type 0 where
  pub meaning : d ≡ told r (state_of after)
  pub codes : SameCodes before after

-- one for a chain that has a repeat
abbrev pub full : Repeats → ℕ
full Empty = 0
full One = 1
full Many = 1

-- how many codes end the patterns around
abbrev pub closing : List Frame → ℕ
closing [] = 0
closing (f ∷ fs) = length (ends f) + closing fs

-- the codes that are there and those that would end it all: an item adds at most two
abbrev pub load : State → ℕ
load s = length s.codes + length (ends s.frame) + full s.frame.repeats + closing s.around
