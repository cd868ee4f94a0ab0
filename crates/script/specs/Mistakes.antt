-- What a mistake says to people.
use Rattle.std.specs.Prelude.{ℕ, List, codes}
use Rattle.script.specs.declared.mistake.Mistake.{Mistake}
use Rattle.script.specs.declared.mistake.Mistake.TheVariants as mistake

abbrev pub told_to_people : Mistake → List ℕ
told_to_people mistake.UnknownCommand = codes "unknown command; sungrieb --help has the commands"
told_to_people mistake.UnknownNotation = codes "behind pattern comes bytes, events, bytes-hex or events-hex"
told_to_people mistake.BadNumber = codes "a number is missing, or something else stands in its place"
told_to_people mistake.Surplus = codes "nothing comes behind this command"
