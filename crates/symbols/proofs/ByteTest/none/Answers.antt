use Rattle.std.proofs.Common.{refl}
use Rattle.symbols.proofs.Passing.{nothing}
use Rattle.symbols.proofs.ByteTest.none.Goals as goal

pub returns : goal.returns
returns c = record { is = refl; law = nothing }
