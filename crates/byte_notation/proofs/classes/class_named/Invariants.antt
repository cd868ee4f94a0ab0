use Rattle.std.proofs.Common.{◌≡◌, drop}
use Rattle.byte_notation.specs.Classes.{names, named_from, class_named}
use Rattle.byte_notation.proofs.classes.class_named.Given as goal

abbrev pub invariant-loop-class : goal.invariant-loop-class
invariant-loop-class l = named_from l.class-index (drop l.class-index names) l.text ≡ class_named l.text
