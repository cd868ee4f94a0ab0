use Rattle.std.proofs.Common.{◌+◌, ◌*◌}
use Rattle.dense_shelf.proofs.Cells.{with_row}
use Rattle.dense_shelf.proofs.Sweeps.{OneInv}
use Rattle.dense_shelf.proofs.rows.Rows.forget_to.Given as goal

abbrev pub invariant-loop-byte : goal.invariant-loop-byte
invariant-loop-byte l =
    let r = l.fn.self in
    let a = l.class * r.places in
    OneInv r.bytes.now r.places r.used.classes l.place l.class l.byte-index (with_row r.bytes.now a (a + r.places) l.row) l.gone
