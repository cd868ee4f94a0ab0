-- What a searcher remembers, whatever its shelf and its policy are; how a set is seated, and how a step is noted.
use Rattle.std.specs.Prelude.{◌≡◌, ℕ, ◌+◌, ◌<◌, ◌≤◌, min, Bool, true, false, cond, Some, None, Option, ◌==◌, ◌≢◌}
use Rattle.sets.specs.Members.{Members, none, plus, less, tally}
use Rattle.sets.specs.Lowest.{LowestFree}
use Rattle.memory.specs.Steps.{Map, nothing, noted, without, size}
use Rattle.memory.specs.Live.{May}
use Rattle.theory.specs.declared.Direction.{Direction}
use Rattle.theory.specs.Reads.{State}
use Rattle.law.specs.Subject.{Subject, leads}

pub record Memory (States : Type 0) : Type 0 where
  -- the set, with its direction, that each place holds
  pub live : ℕ → Option (State States)
  -- the shelf's map from place and class to place
  pub known : Map
  -- the live places that the policy was told of
  pub told : Members
  pub limit : ℕ
  -- the shelf's places, and its capacity in steps
  pub places : ℕ
  pub capacity : ℕ

abbrev pub taken : {States : Type 0} → Option (State States) → Bool
taken None = false
taken (Some s) = true

-- the places that hold a set
abbrev pub held_places : {States : Type 0} → Memory States → Members
held_places m = λ p. taken (m.live p)

-- how many sets are live
abbrev pub sets_live : {States : Type 0} → Memory States → ℕ
sets_live m = tally (held_places m) 64

-- how many steps are known now
abbrev pub steps_known : {States : Type 0} → Memory States → ℕ
steps_known m = size m.places m.known

-- how many sets may be live
abbrev pub allowance : {States : Type 0} → Memory States → ℕ
allowance m = min m.limit m.places

-- s is live nowhere
abbrev pub Absent : {States : Type 0} → Memory States → State States → Type 0
Absent m s = (p : ℕ) → m.live p ≢ Some s

-- s takes the place p
abbrev pub with_set : {States : Type 0} → Memory States → ℕ → State States → Memory States
with_set m p s =
    record {
      live = λ k. cond (k == p) (Some s) (m.live k);
      known = m.known;
      told = plus 64 m.told p;
      limit = m.limit;
      places = m.places;
      capacity = m.capacity;
    }

-- the places x are dropped, with the steps from and to them
abbrev pub without_places : {States : Type 0} → Memory States → Members → Memory States
without_places m x =
    record {
      live = λ k. cond (x k) None (m.live k);
      known = without m.known x;
      told = less m.told x;
      limit = m.limit;
      places = m.places;
      capacity = m.capacity;
    }

-- with other known steps
abbrev pub with_steps : {States : Type 0} → Memory States → Map → Memory States
with_steps m f = record { live = m.live; known = f; told = m.told; limit = m.limit; places = m.places; capacity = m.capacity }

abbrev pub with_limit : {States : Type 0} → Memory States → ℕ → Memory States
with_limit m l = record { live = m.live; known = m.known; told = m.told; limit = l; places = m.places; capacity = m.capacity }

-- everything is dropped
abbrev pub emptied : {States : Type 0} → Memory States → Memory States
emptied m = record { live = λ _. None; known = nothing; told = none; limit = m.limit; places = m.places; capacity = m.capacity }

-- as a searcher is opened on a shelf of so many places and this capacity
abbrev pub opened : {States : Type 0} → ℕ → ℕ → Memory States
opened places capacity = record { live = λ _. None; known = nothing; told = none; limit = 64; places = places; capacity = capacity }

-- a choice that the policy's meaning allows, and that is not empty
pub record Chosen {States : Type 0} (m : Memory States) (held : Option ℕ) (x : Members) : Type 0 where
  pub within : (k : ℕ) → x k ≡ true → May m.told held k
  pub low : (k : ℕ) → x k ≡ true → k < 64
  pub some : (k : ℕ) × (x k ≡ true)

-- s is seated while a place may be held: then n is remembered, s is at r or nowhere, and so many steps are gone
pub data Seated {States : Type 0} (m : Memory States) (s : State States) (held : Option ℕ) (n : Memory States) (r : Option ℕ) (gone : ℕ) : Type 0 where
  -- it was live
  already : (p : ℕ) → m.live p ≡ Some s → r ≡ Some p → n ≡ m → gone ≡ 0 → Seated m s held n r gone
  -- there was room
  room : (p : ℕ) → Absent m s → sets_live m < allowance m → LowestFree (held_places m) p → r ≡ Some p → n ≡ with_set m p s → gone ≡ 0 → Seated m s held n r gone
  -- the policy made room
  made : (x : Members) (p : ℕ) → Absent m s → allowance m ≤ sets_live m → Chosen m held x → LowestFree (held_places (without_places m x)) p → r ≡ Some p → n ≡ with_set (without_places m x) p s → gone + steps_known (without_places m x) ≡ steps_known m → Seated m s held n r gone
  -- there was no room, and none to make
  nowhere : Absent m s → allowance m ≤ sets_live m → ((k : ℕ) → May m.told held k → ⊥) → r ≡ None → n ≡ m → gone ≡ 0 → Seated m s held n r gone

-- the step from the place p at the class c to the place t is noted; at full capacity every step is dropped before, and sets stay live
pub data Noted {States : Type 0} (m : Memory States) (p c t : ℕ) (n : Memory States) (gone : ℕ) : Type 0 where
  spare : steps_known m < m.capacity → n ≡ with_steps m (noted m.known p c t) → gone ≡ 0 → Noted m p c t n gone
  full : m.capacity ≤ steps_known m → n ≡ with_steps m (noted nothing p c t) → gone ≡ steps_known m → Noted m p c t n gone

-- two places hold sets live for one direction, and the step rule leads from the first to the second for each symbol of the class
pub record Joins {Sym States : Type 0} (M : Subject Sym States) (m : Memory States) (p c t : ℕ) : Type 0 where
  pub direction : Direction
  pub from : States
  pub to : States
  pub here : m.live p ≡ Some (record { direction = direction; set = from })
  pub there : m.live t ≡ Some (record { direction = direction; set = to })
  pub follows : (a : Sym) → M.fit a ≡ true → M.class_of a ≡ c → leads M direction from a ≡ to

-- what holds of every searcher's memory, from its opening on
pub record Sound {Sym States : Type 0} (M : Subject Sym States) (m : Memory States) : Type 0 where
  -- the policy was told of the live places
  pub heard : (k : ℕ) → m.told k ≡ taken (m.live k)
  pub low : (p : ℕ) (s : State States) → m.live p ≡ Some s → p < m.places
  pub few : m.places ≤ 64
  pub some : 0 < m.places → 0 < m.capacity
  pub limited : m.limit ≤ 64
  -- no set is live twice for one direction
  pub once : (p q : ℕ) (s : State States) → m.live p ≡ Some s → m.live q ≡ Some s → p ≡ q
  pub allowed : sets_live m ≤ allowance m
  pub classes : (p c t : ℕ) → m.known p c ≡ Some t → c < 256
  pub joins : (p c t : ℕ) → m.known p c ≡ Some t → Joins M m p c t
  pub fits : steps_known m ≤ m.capacity
