use Rattle.std.proofs.Common.{◌≡◌, ◌^◌, ◌<◌, take}
use Rattle.byte_classes.specs.Tables.{row}
use Rattle.byte_classes.proofs.table.row.Given as goal

abbrev pub invariant-loop-test : goal.invariant-loop-test
invariant-loop-test l = (l.digits ≡ row (take l.test-index l.test-items) l.byte) × (l.digits < 2 ^ l.test-index)
