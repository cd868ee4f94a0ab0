-- What a clock keeps, as its clauses see it.
use Rattle.sets.specs.Places.{member}
use Rattle.policies.specs.Heard.{Face, face}
use Rattle.policies.specs.declared.clock.Clock.{Clock}

abbrev pub face_of : Clock → Face
face_of s = face (member s.live) (member s.marks) s.hand
