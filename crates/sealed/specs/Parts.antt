-- What sealing knows of the parts of a pattern while it reads the codes.
use Rattle.sets.specs.Positions.{holds}
use Rattle.theory.specs.Seal as seal
use Rattle.sealed.specs.declared.part.Part.{Part}

-- a part by the members of its sets
abbrev pub part_of : Part → seal.Part
part_of x = record { nullable = x.nullable; first = holds x.first; last = holds x.last }
