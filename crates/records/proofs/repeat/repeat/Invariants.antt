use Rattle.std.proofs.Common.{◌≡◌, vec_items}
use Rattle.records.specs.Copies.{copies}
use Rattle.records.proofs.repeat.repeat.Given as goal

abbrev pub invariant-loop : goal.invariant-loop
invariant-loop g l = vec_items l.out ≡ copies l.counter l.piece
