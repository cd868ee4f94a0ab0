-- Sets of places, which are numbered 0 to 63.
use Rattle.sets.specs.Members.{Members}
use Rattle.sets.specs.BitSets.{members}
use Rattle.sets.specs.declared.bit_set.BitSet.{BitSet}
use Rattle.sets.specs.declared.bit_set.Place.{Place}

abbrev pub PlaceSet : Type 0
PlaceSet = BitSet Place

abbrev pub member : PlaceSet → Members
member = members
