use Rattle.std.proofs.Common.{rules}
use Rattle.sealed.proofs.Parted.{same_part}
use Rattle.sealed.proofs.part.Part.join.Goals as goal

pub returns : goal.returns
returns c = same_part _ _ _ _ _ _ (search rules) c.with_if.ensures c.with_if-2.ensures
