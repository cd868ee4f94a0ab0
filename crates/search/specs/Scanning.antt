-- How far a scan has come: what it knows of the record that lies behind it, and the row of its reads.
use Rattle.std.specs.Prelude.{◌≡◌, ℕ, ◌-◌, ◌≤◌, cond, List, [], ◌++◌, length, drop, IfSome, Some, Option, slice_index_or}
use Rattle.collector.specs.declared.Collector.{Collector}
use Rattle.sets.specs.Positions.{PositionSet}
use Rattle.memory.specs.declared.shelf.Shelf.{Ghosts as ShelfMeaning}
use Rattle.memory.specs.declared.policy.Policy.{Ghosts as PolicyMeaning}
use Rattle.theory.specs.declared.Direction.TheVariants.{Ahead, Back}
use Rattle.theory.specs.declared.Span.{Span}
use Rattle.theory.specs.Scans.{backs, start, far, find, list}
use Rattle.theory.specs.Reads.{Read, back_reads, ahead_reads, find_reads, list_reads}
use Rattle.law.specs.Subject.{Subject}
use Rattle.law.specs.Memory.{Memory}
use Rattle.law.specs.Reading.{Counts as Tallies, Walk}
use Rattle.automaton.specs.declared.automaton.Automaton.{Ghosts as AutomatonMeaning}
use Rattle.search.specs.declared.scanner.Scanner.{Scanner}
use Rattle.search.specs.declared.scanner.Scan.{Scan}
use Rattle.search.specs.declared.scanner.Run.{Run}
use Rattle.search.specs.declared.answer.Found.{Found}
use Rattle.search.specs.declared.answer.Listed.{Listed}
use Rattle.search.specs.declared.counts.Counts.{Counts}
use Rattle.search.specs.Counted.{tallied, Bounded}
use Rattle.search.specs.Remembered.{no_set, state, memory, subject, Ready, At}

-- back over the record r, from the memory m to n: at `at` the set is S and the smallest start is o
pub record BackSoFar {Sym : Type 0} (X : Subject Sym PositionSet) (m : Memory PositionSet) (r : List Sym) (at : ℕ) (S : PositionSet) (o : Option ℕ) (n : Memory PositionSet) (k : Tallies) : Type 0 where
  pub set_is : S ≡ backs X.machine (drop at r)
  pub start_is : o ≡ start X.machine at (drop at r)
  pub walk : Walk X m (back_reads X.machine (drop at r)) n k

pub record Backed {M S P Sym : Type 0} (automaton : AutomatonMeaning M Sym) (shelf : ShelfMeaning S) (policy : PolicyMeaning P) (m : Memory PositionSet) (r : List Sym) (scan : Scan (Option ℕ)) (s : Scanner M S P) : Type 0 where
  pub ready : Ready automaton shelf policy s
  pub held : At Back (memory shelf policy s) scan.cursor
  pub so_far : BackSoFar (subject automaton s) m r scan.at scan.cursor.set scan.mark (memory shelf policy s) (tallied scan.counts)

-- the same of a run over known steps, whose set stands at its place
pub record RidingBack {M S P Sym : Type 0} (automaton : AutomatonMeaning M Sym) (shelf : ShelfMeaning S) (policy : PolicyMeaning P) (m : Memory PositionSet) (r : List Sym) (run : Run (Option ℕ)) (k : Tallies) (s : Scanner M S P) : Type 0 where
  pub ready : Ready automaton shelf policy s
  pub held : (memory shelf policy s).live run.place ≡ Some (state Back (slice_index_or s.sets run.place no_set))
  pub so_far : BackSoFar (subject automaton s) m r run.at (slice_index_or s.sets run.place no_set) run.mark (memory shelf policy s) k

-- the numbers of a scan back over a record of n symbols
pub record BackWithin (n : ℕ) (scan : Scan (Option ℕ)) : Type 0 where
  pub at : scan.at ≤ n
  pub start : IfSome scan.mark (λ s. (scan.at ≤ s) × (s ≤ n))
  pub counts : Bounded (n - scan.at) scan.counts

-- ahead from the place `from` of the record r, from the memory m to n: at `at` the set is S and the longest word ends at `end`;
-- what is left to read is nothing if S is empty
pub record AheadSoFar {Sym : Type 0} (X : Subject Sym PositionSet) (m : Memory PositionSet) (r : List Sym) (from at : ℕ) (S : PositionSet) (end : ℕ) (n : Memory PositionSet) (k : Tallies) : Type 0 where
  pub done : List (Read Sym PositionSet)
  pub walk : Walk X m done n k
  pub rest : ahead_reads X.machine X.machine.begin (drop from r) ≡ done ++ cond (X.machine.empty S) [] (ahead_reads X.machine S (drop at r))
  pub end_is : far X.machine from from X.machine.begin (drop from r) ≡ cond (X.machine.empty S) end (far X.machine end at S (drop at r))

pub record Aheaded {M S P Sym : Type 0} (automaton : AutomatonMeaning M Sym) (shelf : ShelfMeaning S) (policy : PolicyMeaning P) (m : Memory PositionSet) (r : List Sym) (from : ℕ) (scan : Scan ℕ) (s : Scanner M S P) : Type 0 where
  pub ready : Ready automaton shelf policy s
  pub held : At Ahead (memory shelf policy s) scan.cursor
  pub so_far : AheadSoFar (subject automaton s) m r from scan.at scan.cursor.set scan.mark (memory shelf policy s) (tallied scan.counts)

-- the same of a run over known steps, whose set stands at its place
pub record RidingAhead {M S P Sym : Type 0} (automaton : AutomatonMeaning M Sym) (shelf : ShelfMeaning S) (policy : PolicyMeaning P) (m : Memory PositionSet) (r : List Sym) (from : ℕ) (run : Run ℕ) (k : Tallies) (s : Scanner M S P) : Type 0 where
  pub ready : Ready automaton shelf policy s
  pub held : (memory shelf policy s).live run.place ≡ Some (state Ahead (slice_index_or s.sets run.place no_set))
  pub so_far : AheadSoFar (subject automaton s) m r from run.at (slice_index_or s.sets run.place no_set) run.mark (memory shelf policy s) k

-- the numbers of a scan ahead over a record of n symbols
pub record AheadWithin (n : ℕ) (scan : Scan ℕ) : Type 0 where
  pub at : scan.at ≤ n
  pub end : scan.mark ≤ n
  pub counts : Bounded scan.at scan.counts

-- a scan ahead is over: its reads are those of the definition, and so is the end
pub record Reached {M S P Sym : Type 0} (automaton : AutomatonMeaning M Sym) (shelf : ShelfMeaning S) (policy : PolicyMeaning P) (m : Memory PositionSet) (r : List Sym) (from : ℕ) (scan : Scan ℕ) (s : Scanner M S P) : Type 0 where
  pub ready : Ready automaton shelf policy s
  pub walk : Walk (subject automaton s) m (ahead_reads (subject automaton s).machine (subject automaton s).machine.begin (drop from r)) (memory shelf policy s) (tallied scan.counts)
  pub end_is : scan.mark ≡ far (subject automaton s).machine from from (subject automaton s).machine.begin (drop from r)

-- a find is over
pub record Located {M S P Sym : Type 0} (automaton : AutomatonMeaning M Sym) (shelf : ShelfMeaning S) (policy : PolicyMeaning P) (m : Memory PositionSet) (r : List Sym) (from : ℕ) (found : Found) (s : Scanner M S P) : Type 0 where
  pub ready : Ready automaton shelf policy s
  pub span_is : found.span ≡ find (subject automaton s).machine r from
  pub walk : Walk (subject automaton s) m (find_reads (subject automaton s).machine r from) (memory shelf policy s) (tallied found.counts)

-- a list of r from `from` on, from the memory m to n, has written xs and has `left` entries; it goes on from `at`
pub record ListSoFar {Sym : Type 0} (X : Subject Sym PositionSet) (m : Memory PositionSet) (r : List Sym) (entries from : ℕ) (xs : List Span) (left at : ℕ) (n : Memory PositionSet) (k : Tallies) : Type 0 where
  pub done : List (Read Sym PositionSet)
  pub walk : Walk X m done n k
  pub reads : list_reads X.machine r entries from ≡ done ++ list_reads X.machine r left at
  pub written : (list X.machine r entries from).written ≡ xs ++ (list X.machine r left at).written
  pub rest : (list X.machine r entries from).rest ≡ (list X.machine r left at).rest

pub record Listing {M S P Sym : Type 0} (automaton : AutomatonMeaning M Sym) (shelf : ShelfMeaning S) (policy : PolicyMeaning P) (m : Memory PositionSet) (r : List Sym) (entries from : ℕ) (xs : List Span) (left at : ℕ) (k : Counts) (s : Scanner M S P) : Type 0 where
  pub ready : Ready automaton shelf policy s
  pub so_far : ListSoFar (subject automaton s) m r entries from xs left at (memory shelf policy s) (tallied k)

-- a list is over: it wrote xs
pub record Collected {M S P Sym : Type 0} (automaton : AutomatonMeaning M Sym) (shelf : ShelfMeaning S) (policy : PolicyMeaning P) (m : Memory PositionSet) (r : List Sym) (entries from : ℕ) (xs : List Span) (listed : Listed) (s : Scanner M S P) : Type 0 where
  pub ready : Ready automaton shelf policy s
  pub written_is : xs ≡ (list (subject automaton s).machine r entries from).written
  pub rest_is : listed.rest ≡ (list (subject automaton s).machine r entries from).rest
  pub walk : Walk (subject automaton s) m (list_reads (subject automaton s).machine r entries from) (memory shelf policy s) (tallied listed.counts)

-- a collector keeps its slice, and what lies behind its entries
pub record Filled (before after : Collector Span) : Type 0 where
  pub size : length after.entries.now ≡ length before.entries.now
  pub behind : drop after.used after.entries.now ≡ drop after.used before.entries.now
  pub lender : after.entries.ghost_name ≡ before.entries.ghost_name
