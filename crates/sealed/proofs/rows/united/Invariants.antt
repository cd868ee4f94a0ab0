use Rattle.std.proofs.Common.{◌≡◌}
use Rattle.sealed.proofs.Uniting.{United}
use Rattle.sealed.proofs.rows.united.Given as goal

abbrev pub invariant-loop-p : goal.invariant-loop-p
invariant-loop-p l = (l.p-iterator.set ≡ l.fn.members) × United l.fn.members l.rows l.p-iterator.from l.all
