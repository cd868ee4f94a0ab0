use Rattle.sets.specs.BitSets.{members}
use Rattle.sets.proofs.Sets.{meets_by}
use Rattle.sets.proofs.bit_set.BitSet.meets.Goals as goal

pub returns : goal.returns
returns g c =
    meets_by (members c.args.self) (members c.args.other) (members c.intersection.result) c.is_empty.result c.intersection.ensures c.is_empty.ensures
