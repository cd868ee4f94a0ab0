-- What a code is called when it is printed.
use Rattle.std.specs.Prelude.{ℕ, List, codes}
use Rattle.pattern.specs.declared.Code.{Code}
use Rattle.pattern.specs.declared.Code.TheVariants.{Atom, Join, Choice, Star, Plus, Maybe}

abbrev pub name_of : Code → List ℕ
name_of Atom = codes "atom"
name_of Join = codes "join"
name_of Choice = codes "choice"
name_of Star = codes "star"
name_of Plus = codes "plus"
name_of Maybe = codes "maybe"
