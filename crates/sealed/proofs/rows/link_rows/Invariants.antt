use Rattle.std.proofs.Common.{◌≡◌}
use Rattle.sets.specs.Positions.{holds}
use Rattle.sealed.proofs.Linking.{Upto}
use Rattle.sealed.proofs.rows.link_rows.Given as goal

abbrev pub invariant-loop-p : goal.invariant-loop-p
invariant-loop-p l = (l.p-iterator.set ≡ l.fn.last) × Upto (holds l.fn.last) (holds l.first) l.initial.rows l.rows l.p-iterator.from
