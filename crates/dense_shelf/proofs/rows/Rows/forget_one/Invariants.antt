use Rattle.std.proofs.Common.{◌≡◌}
use Rattle.sets.specs.Members.{none, plus}
use Rattle.dense_shelf.specs.Kept.{map_in, Untouched}
use Rattle.dense_shelf.proofs.Sweeps.{RowsSwept}
use Rattle.dense_shelf.proofs.rows.Rows.forget_one.Given as goal

abbrev pub invariant-loop-class : goal.invariant-loop-class
invariant-loop-class l = record {
  same : Untouched l.initial.self l.self;
  used : l.self.used.classes ≡ l.initial.self.used.classes;
  rows : RowsSwept l.initial.self.places (plus 64 none l.place) (map_in l.initial.self) (map_in l.self) l.class l.gone;
}
