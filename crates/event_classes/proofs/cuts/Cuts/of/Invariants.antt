use Rattle.std.proofs.Common.{◌≡◌, ◌*◌, ◌≤◌, length, drop}
use Rattle.event_classes.specs.Cuts.{cut_by, cuts}
use Rattle.event_classes.proofs.cuts.Cuts.of.Given as goal

abbrev pub invariant-loop-test : goal.invariant-loop-test
invariant-loop-test l = record { few : length l.cuts ≤ 2 * l.test-index; same : cut_by (drop l.test-index l.test-items) l.cuts ≡ cuts l.test-items }
