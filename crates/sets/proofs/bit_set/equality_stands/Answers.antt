use Rattle.std.proofs.Common.{nat_eq, arith}
use Rattle.std.proofs.Math.Bool.{and-true}
use Rattle.sets.proofs.Sets.{same_mask}
use Rattle.sets.specs.BitSets.{members}
use Rattle.sets.specs.Positions.{alike}
use Rattle.sets.proofs.bit_set.equality_stands.Goals as goal

pub returns-clause-members : goal.returns-clause-members
unfolding members
returns-clause-members g c = rw (and-true (nat_eq c.args._one.bits c.args._other.bits)) (same_mask 64 c.args._one.bits c.args._other.bits (omega arith) (omega arith))

pub returns-clause-value : goal.returns-clause-value
unfolding alike
returns-clause-value g c = and-true (nat_eq c.args._one.bits c.args._other.bits)
