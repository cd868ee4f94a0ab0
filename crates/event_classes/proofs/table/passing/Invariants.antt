use Rattle.event_classes.proofs.Passing.{Filled}
use Rattle.event_classes.proofs.table.passing.Given as goal

abbrev pub invariant-loop-code : goal.invariant-loop-code
invariant-loop-code l = Filled l.tests.items l.cuts l.code-index l.passing.items
