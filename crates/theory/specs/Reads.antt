-- What a search reads: which symbols, in which sets, in order. Pattern, alphabet and record alone decide it.
use Rattle.std.specs.Prelude.{ℕ, zero, suc, cond, List, [], ◌∷◌, ◌++◌, drop, Some, None, Option}
use Rattle.theory.specs.declared.Direction.{Direction}
use Rattle.theory.specs.declared.Direction.TheVariants.{Ahead, Back}
use Rattle.theory.specs.declared.Span.{Span}
use Rattle.theory.specs.Machine.{Machine, rule}
use Rattle.theory.specs.Scans.{backs, start, find}

-- a symbol is read in a set
pub record Read (Sym Set : Type 0) : Type 0 where
  pub direction : Direction
  pub set : Set
  pub symbol : Sym

-- a set with its direction: what a searcher keeps at a place
pub record State (Set : Type 0) : Type 0 where
  pub direction : Direction
  pub set : Set

-- the states that a read meets
abbrev pub source : {Sym Set : Type 0} → Read Sym Set → State Set
source x = record { direction = x.direction; set = x.set }

abbrev pub target : {Sym Set : Type 0} → Machine Sym Set → Read Sym Set → State Set
target m x = record { direction = x.direction; set = rule m x.direction x.set x.symbol }

-- a step by the state that it leaves and the class of the symbol
pub record Step (Set : Type 0) : Type 0 where
  pub from : State Set
  pub class : ℕ

abbrev pub step : {Sym Set : Type 0} → (Sym → ℕ) → Read Sym Set → Step Set
step class_of x = record { from = source x; class = class_of x.symbol }

-- back, from the end of w to its beginning
abbrev pub back_reads : {Sym Set : Type 0} → Machine Sym Set → List Sym → List (Read Sym Set)
back_reads m [] = []
back_reads m (a ∷ w) = back_reads m w ++ (record { direction = Back; set = backs m w; symbol = a } ∷ [])

-- ahead from S, until the set is empty or w is read; the symbol that empties the set is read
abbrev pub ahead_reads : {Sym Set : Type 0} → Machine Sym Set → Set → List Sym → List (Read Sym Set)
ahead_reads m S [] = []
ahead_reads m S (a ∷ w) = record { direction = Ahead; set = S; symbol = a } ∷ cond (m.empty (m.ahead S a)) [] (ahead_reads m (m.ahead S a) w)

-- without a start there is no ahead scan
abbrev pub start_reads : {Sym Set : Type 0} → Machine Sym Set → List Sym → Option ℕ → List (Read Sym Set)
start_reads m r None = []
start_reads m r (Some s) = ahead_reads m m.begin (drop s r)

abbrev pub find_reads : {Sym Set : Type 0} → Machine Sym Set → List Sym → ℕ → List (Read Sym Set)
find_reads m r from = back_reads m (drop from r) ++ start_reads m r (start m from (drop from r))

-- if a span was found, the list goes on from its end
abbrev pub next_reads : {A : Type 0} → Option Span → (ℕ → List A) → List A
next_reads None further = []
next_reads (Some x) further = further x.end

-- a list with no entry free still makes its whole last find
abbrev pub list_reads : {Sym Set : Type 0} → Machine Sym Set → List Sym → ℕ → ℕ → List (Read Sym Set)
list_reads m r zero from = find_reads m r from
list_reads m r (suc entries) from = find_reads m r from ++ next_reads (find m r from) (list_reads m r entries)

abbrev pub whole_reads : {Sym Set : Type 0} → Machine Sym Set → List Sym → List (Read Sym Set)
whole_reads m r = ahead_reads m m.begin r
