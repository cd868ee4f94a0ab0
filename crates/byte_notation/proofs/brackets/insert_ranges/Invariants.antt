use Rattle.std.proofs.Common.{◌≡◌, drop}
use Rattle.byte_notation.specs.Brackets.{with_ranges}
use Rattle.byte_notation.proofs.brackets.insert_ranges.Given as goal

abbrev pub invariant-loop-range : goal.invariant-loop-range
invariant-loop-range l = with_ranges l.test (drop l.range-index l.ranges) ≡ with_ranges l.initial.test l.ranges
