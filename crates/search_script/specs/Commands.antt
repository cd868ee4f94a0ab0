-- What a line of a script that searches asks for.
use Rattle.std.specs.Prelude.{ℕ, List, [], ◌∷◌, Some, None, Ok, Err, Option, Result}
use Rattle.script.specs.Words.{up_to, past, trimmed}
use Rattle.script.specs.Arguments.{number_behind, two_behind, end_behind}
use Rattle.script.specs.Commands as plain
use Rattle.script.specs.declared.command.Form.{Form}
use Rattle.search_script.specs.Mistakes.{lifted}
use Rattle.search_script.specs.Verbs.{verb_of}
use Rattle.search_script.specs.Openings.{opening}
use Rattle.search_script.specs.Sources.{Made, made, source_of}
use Rattle.search_script.specs.declared.command.Opening.{Opening}
use Rattle.search_script.specs.declared.verb.Verb.{Verb}
use Rattle.search_script.specs.declared.verb.Verb.TheVariants.{Open as OpenV, Record as RecordV, Find as FindV, List as ListV, Whole as WholeV, Limit as LimitV, Clear as ClearV, Memory as MemoryV}
use Rattle.search_script.specs.declared.command.Command.{Command}
use Rattle.search_script.specs.declared.command.Command.TheVariants.{Plain as PlainC, Open as OpenC, Record as RecordC, Find as FindC, List as ListC, Whole as WholeC, Limit as LimitC, Clear as ClearC, Memory as MemoryC}
use Rattle.search_script.specs.declared.command.Mistake.{Mistake}

-- a command by its contents
pub data Asked : Type 0 where
  nothing : Asked
  pattern : Form → List ℕ → Asked
  test : ℕ → Asked
  seal : Asked
  class : List ℕ → Asked
  passes : ℕ → ℕ → Asked
  positions : Asked
  opened : Opening → Asked
  recorded : Made → Asked
  find : ℕ → Asked
  list : ℕ → ℕ → Asked
  whole : Asked
  limit : ℕ → Asked
  clear : Asked
  memory : Asked
  wrong : Mistake → Asked

-- a command about an answer, or the mistake
abbrev pub about : {A : Type 0} → (A → Asked) → Result A Mistake → Asked
about f (Ok a) = f a
about f (Err m) = wrong m

abbrev pub asked_by : Verb → List ℕ → Asked
asked_by OpenV rest = about opened (opening rest)
asked_by (RecordV manner) rest = about recorded (source_of manner rest)
asked_by FindV rest = about find (lifted (number_behind rest))
asked_by ListV rest = about (λ mn. list mn.0 mn.1) (lifted (two_behind rest))
asked_by WholeV rest = about (λ _. whole) (lifted (end_behind rest))
asked_by LimitV rest = about limit (lifted (number_behind rest))
asked_by ClearV rest = about (λ _. clear) (lifted (end_behind rest))
asked_by MemoryV rest = about (λ _. memory) (lifted (end_behind rest))

-- what a line asks for that does not search
abbrev pub plainly : plain.Asked → Asked
plainly plain.nothing = nothing
plainly (plain.pattern f text) = pattern f text
plainly (plain.test k) = test k
plainly plain.seal = seal
plainly (plain.class symbol) = class symbol
plainly (plain.passes c t) = passes c t
plainly plain.positions = positions
plainly (plain.wrong m) = wrong (Mistake.Plain m)

abbrev pub asked_if : Option Verb → List ℕ → Asked
asked_if (Some verb) line = asked_by verb (past 32 line)
asked_if None line = plainly (plain.asked line)

-- what a line asks for: its first word says whether it searches; then the rest, raw, is what the command is about
abbrev pub asked : List ℕ → Asked
asked line = asked_if (verb_of (up_to 32 (trimmed line))) line

abbrev pub contents : Command → Asked
contents (PlainC c) = plainly (plain.contents c)
contents (OpenC o) = opened o
contents (RecordC s) = recorded (made s)
contents (FindC from) = find from
contents (ListC from entries) = list from entries
contents WholeC = whole
contents (LimitC k) = limit k
contents ClearC = clear
contents MemoryC = memory

abbrev pub told_command : Result Command Mistake → Asked
told_command (Ok c) = contents c
told_command (Err m) = wrong m

abbrev pub told : Result (Option Command) Mistake → Asked
told (Ok None) = nothing
told (Ok (Some c)) = contents c
told (Err m) = wrong m
