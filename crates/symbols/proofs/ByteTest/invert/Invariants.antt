use Rattle.std.proofs.Common.{◌≡◌, ◌++◌, map, take, drop}
use lib.Bits.{bit_xor}
use Rattle.symbols.proofs.ByteTest.invert.Given as goal

abbrev pub invariant-loop-part : goal.invariant-loop-part
invariant-loop-part l = l.part-items ≡ map (λ part. bit_xor part 255) (take l.part-index l.initial.part-items) ++ drop l.part-index l.initial.part-items
