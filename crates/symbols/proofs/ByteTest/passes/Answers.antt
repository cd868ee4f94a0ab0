use Rattle.std.proofs.Common.{◌≡◌, ℕ, ◌%◌}
use lib.Bits.{bit_and, and_mask}
use Rattle.symbols.proofs.ByteTest.passes.Goals as goal

low_bit : (n : ℕ) → bit_and n 1 ≡ n % 2
low_bit n = and_mask n 1

pub returns : goal.returns
returns c = rw low_bit
