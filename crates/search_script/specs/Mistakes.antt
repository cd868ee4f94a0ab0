-- What can be wrong with a line that searches.
use Rattle.std.specs.Prelude.{Ok, Err, Result}
use Rattle.script.specs.declared.mistake.Mistake.{Mistake as PlainMistake}
use Rattle.search_script.specs.declared.command.Mistake.{Mistake}

-- what the line of a plain script can have wrong, too
abbrev pub lifted : {A : Type 0} → Result A PlainMistake → Result A Mistake
lifted (Ok a) = Ok a
lifted (Err m) = Err (Mistake.Plain m)
