use Rattle.byte_classes.proofs.Rows.{Filled}
use Rattle.byte_classes.proofs.table.tabulate.Given as goal

abbrev pub invariant-loop-byte : goal.invariant-loop-byte
invariant-loop-byte l = Filled l.tests.items l.byte-counter l.class l.passing.items
