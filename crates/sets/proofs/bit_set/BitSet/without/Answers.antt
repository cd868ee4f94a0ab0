use Rattle.std.proofs.Common.{ap, ◌∙◌}
use Rattle.sets.specs.Members.{less}
use Rattle.sets.proofs.Sets.{less_one, mask_low}
use Rattle.sets.specs.BitSets.{members}
use Rattle.sets.proofs.bit_set.BitSet.without.Goals as goal

pub returns : goal.returns
unfolding members
returns g c =
    c.minus.ensures ∙ ap (less (members c.args.self)) c.single.ensures ∙ less_one (members c.args.self) 64 c.args.p (mask_low 64 c.args.self.bits)
