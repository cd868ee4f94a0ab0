use Rattle.std.proofs.Common.{◌≡◌, length, vec_items}
use Rattle.script.specs.Hex.{bytes_of}
use Rattle.script.proofs.Pairs.{joined}
use Rattle.script.proofs.hex.read_hex.Given as goal

abbrev pub invariant-loop-rest : goal.invariant-loop-rest
invariant-loop-rest l = joined (vec_items l.out) (bytes_of l.rest) ≡ bytes_of l.text

abbrev pub decreases-loop-rest : goal.decreases-loop-rest
decreases-loop-rest l = length l.rest
