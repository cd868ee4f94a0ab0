-- What a line of a run sheet has: a name, a notation and a pattern text, with one space between.
use Rattle.std.specs.Prelude.{ℕ, cond, List, Some, None, Ok, Err, Option, Result}
use Rattle.script.specs.Words.{up_to, past}
use Rattle.script.specs.Commands.{kind_of, passed_over}
use Rattle.script.specs.declared.command.Kind.{Kind}
use Rattle.script.specs.declared.mistake.Mistake.{Mistake}
use Rattle.script.specs.declared.sheet.Entry.{Entry}

pub data Entered : Type 0 where
  nothing : Entered
  named : List ℕ → Kind → List ℕ → Entered
  wrong : Mistake → Entered

abbrev pub entered_by : List ℕ → Option Kind → List ℕ → Entered
entered_by name (Some kind) text = named name kind text
entered_by name None text = wrong Mistake.UnknownNotation

abbrev pub entered : List ℕ → Entered
entered line = cond (passed_over line) nothing (entered_by (up_to 32 line) (kind_of (up_to 32 (past 32 line))) (past 32 (past 32 line)))

abbrev pub told_entry : Result (Option Entry) Mistake → Entered
told_entry (Ok None) = nothing
told_entry (Ok (Some e)) = named e.name.now e.kind e.text.now
told_entry (Err m) = wrong m
