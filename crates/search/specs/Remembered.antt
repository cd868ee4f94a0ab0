-- What a searcher remembers, read off its fields.
use Rattle.std.specs.Prelude.{◌≡◌, ℕ, ◌<◌, Bool, true, false, cond, List, Some, None, Option, ◌==◌, slice_index_or}
use Rattle.sets.specs.BitSets.{set_of_bits}
use Rattle.sets.specs.Members.{Members}
use Rattle.sets.specs.Places.{member}
use Rattle.sets.specs.Positions.{PositionSet}
use Rattle.memory.specs.declared.shelf.Shelf.{Ghosts as ShelfMeaning}
use Rattle.memory.specs.declared.policy.Policy.{Ghosts as PolicyMeaning}
use Rattle.theory.specs.declared.Direction.{Direction}
use Rattle.theory.specs.declared.Direction.TheVariants.{Ahead, Back}
use Rattle.theory.specs.Reads.{Read, State}
use Rattle.theory.specs.Machine.{Machine}
use Rattle.law.specs.Subject.{Subject, leads}
use Rattle.law.specs.Memory.{Memory, Seated, Sound}
use Rattle.law.specs.Reading.{Unknown, OneRead}
use Rattle.automaton.specs.declared.automaton.Automaton.{Ghosts as AutomatonMeaning}
use Rattle.search.specs.declared.scanner.Scanner.{Scanner}
use Rattle.search.specs.declared.scanner.Cursor.{Cursor}
use Rattle.search.specs.declared.scanner.Move.{Move}
use Rattle.search.specs.declared.scanner.Seating.{Seating}
use Rattle.search.specs.Counted.{tallied}

abbrev pub heading : Bool → Direction
heading true = Back
heading false = Ahead

abbrev pub backward : Direction → Bool
backward Ahead = false
backward Back = true

abbrev pub no_set : PositionSet
no_set = set_of_bits 0

abbrev pub state : Direction → PositionSet → State PositionSet
state d set = record { direction = d; set = set }

abbrev pub read : {Sym : Type 0} → Direction → PositionSet → Sym → Read Sym PositionSet
read d set a = record { direction = d; set = set; symbol = a }

-- the set, with its direction, at each live place
abbrev pub lives : Members → List PositionSet → Members → ℕ → Option (State PositionSet)
lives live sets back = λ p. cond (live p) (Some (state (heading (back p)) (slice_index_or sets p no_set))) None

abbrev pub memory : {M S P : Type 0} → ShelfMeaning S → PolicyMeaning P → Scanner M S P → Memory PositionSet
memory shelf policy s =
    record {
      live = lives (member s.live) s.sets (member s.back);
      known = shelf.steps s.shelf;
      told = policy.live s.policy;
      limit = s.limit;
      places = shelf.room s.shelf;
      capacity = shelf.most s.shelf;
    }

-- what it searches for
abbrev pub subject : {M S P Sym : Type 0} → AutomatonMeaning M Sym → Scanner M S P → Subject Sym PositionSet
subject automaton s = automaton.subject s.automaton.now

-- the set is live at the place, for the direction
abbrev pub SeatedAt : {M S P : Type 0} → Scanner M S P → PositionSet → Direction → ℕ → Type 0
SeatedAt s set d p = (member s.live p ≡ true) × (slice_index_or s.sets p no_set ≡ set) × (member s.back p ≡ backward d)

-- the flag of a place is put to b
abbrev pub marked : Members → ℕ → Bool → Members
marked f p b = λ k. cond (k == p) b (f k)

-- the flags of live places say of their sets what the pattern says
pub record Flagged {M S P Sym : Type 0} (m : Machine Sym PositionSet) (s : Scanner M S P) : Type 0 where
  pub begins : (p : ℕ) → member s.live p ≡ true → member s.begins p ≡ m.first (slice_index_or s.sets p no_set)
  pub ends : (p : ℕ) → member s.live p ≡ true → member s.ends p ≡ m.last (slice_index_or s.sets p no_set)
  pub empties : (p : ℕ) → member s.live p ≡ true → member s.empties p ≡ m.empty (slice_index_or s.sets p no_set)

-- what holds of a searcher from its opening on
pub record Ready {M S P Sym : Type 0} (automaton : AutomatonMeaning M Sym) (shelf : ShelfMeaning S) (policy : PolicyMeaning P) (s : Scanner M S P) : Type 0 where
  pub sound : Sound (subject automaton s) (memory shelf policy s)
  pub counts : shelf.sound s.shelf
  pub flags : Flagged (subject automaton s).machine s

-- what every change of a searcher keeps, beside its memory
pub record Kept {M S P Sym : Type 0} (automaton : AutomatonMeaning M Sym) (shelf : ShelfMeaning S) (before after : Scanner M S P) : Type 0 where
  pub automaton_same : after.automaton ≡ before.automaton
  pub counts : shelf.sound before.shelf → shelf.sound after.shelf
  pub flags : Flagged (subject automaton before).machine before → Flagged (subject automaton before).machine after

-- the step may be noted once there is room
pub record Notable (m : Memory PositionSet) (p c t : ℕ) : Type 0 where
  pub from : p < m.places
  pub to : t < m.places
  pub class : c < 256
  pub unknown : m.known p c ≡ None
  pub some : 0 < m.capacity

-- the place of a cursor, if it has one, holds its set
abbrev pub At : Direction → Memory PositionSet → Cursor → Type 0
At d m cursor = (p : ℕ) → cursor.place ≡ Some p → m.live p ≡ Some (state d cursor.set)

-- one symbol was read in the set S
pub record Moved {Sym : Type 0} (X : Subject Sym PositionSet) (m : Memory PositionSet) (d : Direction) (S : PositionSet) (a : Sym) (n : Memory PositionSet) (move : Move) : Type 0 where
  pub one : OneRead X m (read d S a) n (tallied move.counts)
  pub to : move.cursor.set ≡ leads X d S a
  pub at : At d n move.cursor

-- with S seated `here`, where the memory is h and no step is known for the class c, a symbol of that class was read:
-- then n is remembered
abbrev pub Builds : {Sym : Type 0} → Subject Sym PositionSet → Type 0 → Direction → PositionSet → ℕ → Seating → Memory PositionSet → Memory PositionSet → Move → Type 0
Builds {Sym} X counts d S c here h n move =
    (m : Memory PositionSet) (a : Sym) → Sound X m → counts → Seated m (state d S) None h here.place here.gone →
    Unknown h here.place c → X.fit a ≡ true → c ≡ X.class_of a → Moved X m d S a n move
