-- Sets of positions of a pattern, which are numbered from 0 and lie below `width`.
use Rattle.std.specs.Prelude.{ℕ, Bool, ◌==◌}
use Rattle.sets.specs.Members.{Members}
use Rattle.sets.specs.BitSets.{members}
use Rattle.sets.specs.declared.bit_set.BitSet.{BitSet}
use Rattle.sets.specs.declared.bit_set.Position.{Position}

abbrev pub PositionSet : Type 0
PositionSet = BitSet Position

abbrev pub width : ℕ
width = 64

abbrev pub holds : PositionSet → Members
holds = members

-- are the two one set
unfoldable pub alike : {K : Type 0} → BitSet K → BitSet K → Bool
alike s t = s.bits == t.bits
