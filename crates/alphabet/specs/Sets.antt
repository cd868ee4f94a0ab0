-- The sets that an alphabet tells.
use Rattle.sets.specs.BitSets.{set_of_bits}
use Rattle.sets.specs.Positions.{PositionSet}

-- the set that a table has where it has none
abbrev pub blank : PositionSet
blank = set_of_bits 0
