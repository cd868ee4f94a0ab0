use Rattle.std.proofs.Common.{◌+◌, ◌*◌}
use Rattle.sets.specs.Places.{member}
use Rattle.dense_shelf.proofs.Cells.{with_row}
use Rattle.dense_shelf.proofs.Sweeps.{RowInv}
use Rattle.dense_shelf.proofs.rows.Rows.forget_row.Given as goal

abbrev pub invariant-loop-p : goal.invariant-loop-p
invariant-loop-p l =
    let r = l.fn.self in
    let a = l.class * r.places in
    RowInv r.bytes.now r.places r.used.classes (member l.places) l.class l.p (with_row r.bytes.now a (a + r.places) l.row) l.gone
