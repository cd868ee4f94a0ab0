-- What a line of a script asks for.
use Rattle.std.specs.Prelude.{ℕ, Bool, true, false, cond, List, [], ◌∷◌, Some, None, Ok, Err, codes, Option, Result, ◌==◌}
use Rattle.script.specs.Words.{same, up_to, past, trimmed}
use Rattle.script.specs.Arguments.{number_behind, two_behind, end_behind}
use Rattle.script.specs.declared.command.Kind.{Kind}
use Rattle.script.specs.declared.command.Form.{Form}
use Rattle.script.specs.declared.command.Verb.{Verb}
use Rattle.script.specs.declared.command.Verb.TheVariants.{Pattern as PatternV, Test as TestV, Seal as SealV, Class as ClassV, Passes as PassesV, Positions as PositionsV}
use Rattle.script.specs.declared.command.Command.{Command}
use Rattle.script.specs.declared.command.Command.TheVariants.{Pattern as PatternC, Test as TestC, Seal as SealC, Class as ClassC, Passes as PassesC, Positions as PositionsC}
use Rattle.script.specs.declared.mistake.Mistake.{Mistake}

abbrev pub verb_of : List ℕ → Option Verb
verb_of w =
    cond (same w (codes "pattern")) (Some Verb.Pattern)
    (cond (same w (codes "test")) (Some Verb.Test)
    (cond (same w (codes "seal")) (Some Verb.Seal)
    (cond (same w (codes "class")) (Some Verb.Class)
    (cond (same w (codes "passes")) (Some Verb.Passes)
    (cond (same w (codes "positions")) (Some Verb.Positions) None)))))

abbrev pub kind_of : List ℕ → Option Kind
kind_of w = cond (same w (codes "bytes")) (Some Kind.Bytes) (cond (same w (codes "events")) (Some Kind.Events) None)

abbrev pub form : Kind → Bool → Form
form k h = record { kind = k; hex = h }

abbrev pub form_of : List ℕ → Option Form
form_of w =
    cond (same w (codes "bytes")) (Some (form Kind.Bytes false))
    (cond (same w (codes "events")) (Some (form Kind.Events false))
    (cond (same w (codes "bytes-hex")) (Some (form Kind.Bytes true))
    (cond (same w (codes "events-hex")) (Some (form Kind.Events true)) None)))

-- a command by its contents
pub data Asked : Type 0 where
  nothing : Asked
  pattern : Form → List ℕ → Asked
  test : ℕ → Asked
  seal : Asked
  class : List ℕ → Asked
  passes : ℕ → ℕ → Asked
  positions : Asked
  wrong : Mistake → Asked

-- a comment
abbrev pub remark : List ℕ → Bool
remark [] = true
remark (x ∷ xs) = x == 35

-- blank lines and comments ask for nothing
abbrev pub passed_over : List ℕ → Bool
passed_over line = remark (trimmed line)

abbrev pub pattern_by : Option Form → List ℕ → Asked
pattern_by (Some f) text = pattern f text
pattern_by None text = wrong Mistake.UnknownNotation

abbrev pub asked_pattern : List ℕ → Asked
asked_pattern rest = pattern_by (form_of (up_to 32 rest)) (past 32 rest)

-- a command about an answer, or the mistake
abbrev pub about : {A : Type 0} → (A → Asked) → Result A Mistake → Asked
about f (Ok a) = f a
about f (Err m) = wrong m

abbrev pub asked_by : Verb → List ℕ → Asked
asked_by PatternV rest = asked_pattern rest
asked_by TestV rest = about test (number_behind rest)
asked_by SealV rest = about (λ _. seal) (end_behind rest)
asked_by ClassV rest = class (trimmed rest)
asked_by PassesV rest = about (λ ct. passes ct.0 ct.1) (two_behind rest)
asked_by PositionsV rest = about (λ _. positions) (end_behind rest)

abbrev pub asked_if : Option Verb → List ℕ → Asked
asked_if (Some verb) rest = asked_by verb rest
asked_if None rest = wrong Mistake.UnknownCommand

-- what a line asks for: its first word says which command, and the rest, raw, what it is about
abbrev pub asked : List ℕ → Asked
asked line = cond (passed_over line) nothing (asked_if (verb_of (up_to 32 (trimmed line))) (past 32 line))

abbrev pub contents : Command → Asked
contents (PatternC f text) = pattern f text.now
contents (TestC k) = test k
contents SealC = seal
contents (ClassC text) = class text.now
contents (PassesC c t) = passes c t
contents PositionsC = positions

abbrev pub told_command : Result Command Mistake → Asked
told_command (Ok c) = contents c
told_command (Err m) = wrong m

abbrev pub told : Result (Option Command) Mistake → Asked
told (Ok None) = nothing
told (Ok (Some c)) = contents c
told (Err m) = wrong m
