use Rattle.std.proofs.Common.{◌≡◌, ◌+◌, ◌-◌}
use Rattle.symbols.specs.ByteSets.{with_bytes, with_range, Adds}
use Rattle.symbols.proofs.Passing.{below}
use Rattle.symbols.proofs.ByteTest.insert_range.Given as goal

abbrev pub invariant-loop-byte : goal.invariant-loop-byte
invariant-loop-byte l =
    (with_bytes l.self l.byte (l.high + 1 - l.byte) ≡ with_range l.initial.self l.low l.high)
    × Adds (below l.low (l.byte - l.low)) l.initial.self l.self
