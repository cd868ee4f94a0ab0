use Rattle.std.proofs.Common.{◌≡◌, ◌+◌, vec_items}
use Rattle.records.specs.Rows.{good_rows, bad_rows, text_rows}
use Rattle.records.proofs.Kept.{goods, bads}
use Rattle.records.proofs.Split.{left}
use Rattle.records.proofs.csv.read_events.Given as goal

abbrev pub invariant-loop-i : goal.invariant-loop-i
invariant-loop-i l = record {
  good : goods (vec_items l.out) l.first (left 10 l.i-iterator.iter) ≡ good_rows (text_rows l.text);
  bad : bads (vec_items l.bad) (l.i-iterator.count + 1) l.first (left 10 l.i-iterator.iter) ≡ bad_rows 1 (text_rows l.text);
}
