use Rattle.std.proofs.Common.{refl}
use Rattle.pattern.proofs.Codes.{tree_is, tree_one, tree_empty}
use Rattle.pattern.proofs.codes_stand.Goals as goal

pub returns : goal.returns
returns c = record { built = tree_is; one = tree_one; empty = (refl, tree_empty) }
