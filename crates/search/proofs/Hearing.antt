-- What the policy hears, in order.
use Rattle.std.proofs.Common.{◌≡◌, ℕ, [], ◌∷◌, Option, sym, refl, subst}
use Rattle.sets.specs.Positions.{PositionSet}
use Rattle.memory.specs.declared.shelf.Shelf.{Ghosts as ShelfMeaning}
use Rattle.memory.specs.declared.policy.Policy.{Ghosts as PolicyMeaning}
use Rattle.theory.specs.declared.Direction.{Direction}
use Rattle.search.specs.declared.scanner.Scanner.{Scanner}
use Rattle.search.specs.declared.scanner.Cursor.{Cursor}
use Rattle.memory.specs.Live.{News}
use Rattle.search.specs.Heard.{Heard, SeatingHeard, BuildingHeard}

pub build_plain : {M S P : Type 0} (shelf : ShelfMeaning S) (policy : PolicyMeaning P) (s : Scanner M S P) (d : Direction) (held : Option ℕ) (t : Scanner M S P) (set : PositionSet) (place : Option ℕ) (to : Cursor) → to ≡ record { set = set; place = place } → SeatingHeard shelf policy s set d held t place → BuildingHeard shelf policy s d held t to
build_plain shelf policy s d held t set place to e h =
    subst (λ y. BuildingHeard shelf policy s d held t y) (sym e) record { between = t; seating = h; silent = refl }

-- one thing, then another
pub chain : {P : Type 0} (policy : PolicyMeaning P) (a : P) (e f : News) (q b : P) → Heard policy a (e ∷ []) q → Heard policy q (f ∷ []) b → Heard policy a (e ∷ f ∷ []) b
chain policy a e f q b (x, (h, is)) k = (x, (h, subst (λ y. Heard policy y (f ∷ []) b) is k))
