use Rattle.std.proofs.Common.{◌≡◌}
use Rattle.sets.specs.Members.{shared, below}
use Rattle.sets.specs.Positions.{holds}
use Rattle.sealed.specs.Tables.{column}
use Rattle.sealed.proofs.rows.column.Given as goal

abbrev pub invariant-loop-p : goal.invariant-loop-p
invariant-loop-p l = holds l.set ≡ shared (below l.p) (column l.rows l.q)
