-- What the policy hears while symbols are read: each seating and each drop, what was met again, and that it is asked.
use Rattle.std.specs.Prelude.{◌≡◌, ℕ, ◌+◌, List, [], ◌∷◌, Some, None, Option, slice_index_or}
use Rattle.sets.specs.Members.{Members, none, plus}
use Rattle.sets.specs.Positions.{PositionSet}
use Rattle.memory.specs.Live.{News}
use Rattle.memory.specs.Live.News.{seated, dropped, met, chose}
use Rattle.memory.specs.Steps.{Map}
use Rattle.memory.specs.declared.shelf.Shelf.{Ghosts as ShelfMeaning}
use Rattle.memory.specs.declared.policy.Policy.{Ghosts as PolicyMeaning}
use Rattle.theory.specs.declared.Direction.{Direction}
use Rattle.theory.specs.declared.Direction.TheVariants.{Ahead, Back}
use Rattle.law.specs.Memory.{with_set, without_places}
use Rattle.automaton.specs.declared.automaton.Automaton.{Ghosts as AutomatonMeaning}
use Rattle.search.specs.declared.scanner.Scanner.{Scanner}
use Rattle.search.specs.declared.scanner.Cursor.{Cursor}
use Rattle.search.specs.Remembered.{memory, subject, state, SeatedAt}

-- the policy went from a to b by hearing this, in order, and nothing else
abbrev pub Heard : {P : Type 0} → PolicyMeaning P → P → List News → P → Type 0
Heard policy a [] b = b ≡ a
Heard {P} policy a (e ∷ es) b = (q : P) × (policy.hears a e q × Heard policy q es b)

-- just the place p
abbrev pub just : ℕ → Members
just p = plus 64 none p

-- a set was seated, from the searcher s to t, while a place may be held; it then is at r
pub data SeatingHeard {M S P : Type 0} (shelf : ShelfMeaning S) (policy : PolicyMeaning P) (s : Scanner M S P) (set : PositionSet) (d : Direction) (held : Option ℕ) (t : Scanner M S P) (r : Option ℕ) : Type 0 where
  -- it was found live
  met_again : (p : ℕ) → SeatedAt s set d p → r ≡ Some p → Heard policy s.policy (met (just p) ∷ []) t.policy → SeatingHeard shelf policy s set d held t r
  -- it took a free place
  took_free : (p : ℕ) → r ≡ Some p → memory shelf policy t ≡ with_set (memory shelf policy s) p (state d set) → Heard policy s.policy (seated p ∷ []) t.policy → SeatingHeard shelf policy s set d held t r
  -- the policy was asked, and what it chose was dropped
  made_free : (x : Members) (p : ℕ) → r ≡ Some p → memory shelf policy t ≡ with_set (without_places (memory shelf policy s) x) p (state d set)
      → Heard policy s.policy (chose held x ∷ dropped x ∷ seated p ∷ []) t.policy → SeatingHeard shelf policy s set d held t r
  -- it was asked, and chose none
  in_vain : r ≡ None → Heard policy s.policy (chose held none ∷ []) t.policy → SeatingHeard shelf policy s set d held t r

-- the set of a scan was seated, holding nothing; where the scan knows its place, it is found live there
pub data SettlingHeard {M S P : Type 0} (shelf : ShelfMeaning S) (policy : PolicyMeaning P) (s : Scanner M S P) (d : Direction) (from : Cursor) (t : Scanner M S P) (r : Option ℕ) : Type 0 where
  stayed : (p : ℕ) → from.place ≡ Some p → r ≡ Some p → Heard policy s.policy (met (just p) ∷ []) t.policy → SettlingHeard shelf policy s d from t r
  settled : from.place ≡ None → SeatingHeard shelf policy s from.set d None t r → SettlingHeard shelf policy s d from t r

-- a target was seated, holding the place of the set before it; that the step is noted is not told
pub record BuildingHeard {M S P : Type 0} (shelf : ShelfMeaning S) (policy : PolicyMeaning P) (s : Scanner M S P) (d : Direction) (held : Option ℕ) (t : Scanner M S P) (to : Cursor) : Type 0 where
  pub between : Scanner M S P
  pub seating : SeatingHeard shelf policy s to.set d held between to.place
  pub silent : t.policy ≡ between.policy

-- a symbol was read: the set that it is read in was seated, and then a known target is met again, or one is seated
pub data ReadingHeard {M S P : Type 0} (shelf : ShelfMeaning S) (policy : PolicyMeaning P) (s : Scanner M S P) (d : Direction) (from : Cursor) (t : Scanner M S P) (to : Cursor) : Type 0 where
  knew : (j : Scanner M S P) (r : Option ℕ) (q : ℕ) → SettlingHeard shelf policy s d from j r → to.place ≡ Some q → Heard policy j.policy (met (just q) ∷ []) t.policy → ReadingHeard shelf policy s d from t to
  stepped : (j : Scanner M S P) (r : Option ℕ) → SettlingHeard shelf policy s d from j r → BuildingHeard shelf policy j d r t to → ReadingHeard shelf policy s d from t to

-- one symbol further in a direction: from the place i of the record to j, over the symbol at k
abbrev pub Over : Direction → ℕ → ℕ → ℕ → Type 0
Over Ahead i j k = (j ≡ i + 1) × (k ≡ i)
Over Back i j k = (i ≡ j + 1) × (k ≡ j)

-- by known steps from p, at the place i of the record r, on and on: x were met before, and each place that was come to is met
pub data Passed {Sym : Type 0} (known : Map) (class_of : Sym → ℕ) (r : List Sym) (d : Direction) (i p : ℕ) (x : Members) : ℕ → ℕ → Members → Type 0 where
  not_yet : Passed known class_of r d i p x i p x
  one_more : (h k : ℕ) {q j t : ℕ} {y z : Members} (a : Sym) → Passed known class_of r d i p x h q y → Over d h j k → a ≡ slice_index_or r k a → known q (class_of a) ≡ Some t → z ≡ plus 64 y t → Passed known class_of r d i p x j t z

-- a ride over known steps: every place that was passed is met again, the first one too; where no step is known, nothing is heard
pub data RideHeard {M S P Sym : Type 0} (automaton : AutomatonMeaning M Sym) (shelf : ShelfMeaning S) (policy : PolicyMeaning P) (s : Scanner M S P) (r : List Sym) (d : Direction) (i : ℕ) (from : Cursor) (t : Scanner M S P) (j : ℕ) (to : Cursor) : Type 0 where
  still : j ≡ i → to ≡ from → t.policy ≡ s.policy → RideHeard automaton shelf policy s r d i from t j to
  rode : (p q : ℕ) (x : Members) → from.place ≡ Some p → to.place ≡ Some q → Passed (shelf.steps s.shelf) (subject automaton s).class_of r d i p (just p) j q x
      → Heard policy s.policy (met x ∷ []) t.policy → RideHeard automaton shelf policy s r d i from t j to
