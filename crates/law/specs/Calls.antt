-- The five calls, what each may do to the memory, what it answers, and a series of them on one searcher.
use Rattle.std.specs.Prelude.{◌≡◌, ℕ, ◌<◌, ◌≤◌, Bool, cond, List, [], ◌∷◌, length, Some, None, Option, nat_lt}
use Rattle.refusal.specs.declared.Cause.{Cause}
use Rattle.refusal.specs.declared.Cause.TheVariants.{RecordTooLong, FromPastEnd, LimitTooLarge}
use Rattle.refusal.specs.declared.Refusal.{Refusal}
use Rattle.theory.specs.declared.Span.{Span}
use Rattle.theory.specs.Scans.{find, list, whole}
use Rattle.theory.specs.Reads.{Read, find_reads, list_reads, whole_reads}
use Rattle.law.specs.Subject.{Subject}
use Rattle.law.specs.Memory.{Memory, sets_live, allowance, steps_known, emptied, with_limit}
use Rattle.law.specs.Reading.{Counts, Walk}

-- a search, by its arguments; of a list's entries, the number
pub data Query (Sym : Type 0) : Type 0 where
  Find : List Sym → (from : ℕ) → Query Sym
  Lists : List Sym → (from entries : ℕ) → Query Sym
  Whole : List Sym → Query Sym

pub data Request (Sym : Type 0) : Type 0 where
  Search : Query Sym → Request Sym
  Limit : ℕ → Request Sym
  Clear : Request Sym

-- all that a search answers but its counts, and all that it wrote
pub data Findings : Type 0 where
  Found : Option Span → Findings
  Listed : List Span → (rest : Option ℕ) → Findings
  Told : Bool → Findings

pub data Answer : Type 0 where
  Searched : Findings → Counts → Answer
  Dropped : ℕ → Answer
  Refused : Refusal → Answer

abbrev pub refused_if : Bool → Cause → Option Refusal → Option Refusal
refused_if b cause next = cond b (Some (record { cause = cause; place = 0 })) next

-- whether a call is refused, in checking order
abbrev pub refusal : {Sym : Type 0} → Request Sym → Option Refusal
refusal (Search (Find r from)) = refused_if (nat_lt 1048576 (length r)) RecordTooLong (refused_if (nat_lt (length r) from) FromPastEnd None)
refusal (Search (Lists r from entries)) = refused_if (nat_lt 1048576 (length r)) RecordTooLong (refused_if (nat_lt (length r) from) FromPastEnd None)
refusal (Search (Whole r)) = refused_if (nat_lt 1048576 (length r)) RecordTooLong None
refusal (Limit l) = refused_if (nat_lt 64 l) LimitTooLarge None
refusal Clear = None

-- what a search finds, by its scans
abbrev pub findings : {Sym States : Type 0} → Subject Sym States → Query Sym → Findings
findings M (Find r from) = Found (find M.machine r from)
findings M (Lists r from entries) = Listed (list M.machine r entries from).written (list M.machine r entries from).rest
findings M (Whole r) = Told (whole M.machine r)

-- what a search reads
abbrev pub reads : {Sym States : Type 0} → Subject Sym States → Query Sym → List (Read Sym States)
reads M (Find r from) = find_reads M.machine r from
reads M (Lists r from entries) = list_reads M.machine r entries from
reads M (Whole r) = whole_reads M.machine r

-- the limit is set to l; if more sets are live than the new allowance, all are dropped
pub data Limited {States : Type 0} (m : Memory States) (l : ℕ) (n : Memory States) (gone : ℕ) : Type 0 where
  within : sets_live m ≤ allowance (with_limit m l) → n ≡ with_limit m l → gone ≡ 0 → Limited m l n gone
  beyond : allowance (with_limit m l) < sets_live m → n ≡ emptied (with_limit m l) → gone ≡ steps_known m → Limited m l n gone

-- one call, from the memory m to n, answered a
pub data Answered {Sym States : Type 0} (M : Subject Sym States) (m : Memory States) (c : Request Sym) (n : Memory States) (a : Answer) : Type 0 where
  -- a refusal changes nothing
  refused : (q : Refusal) → refusal c ≡ Some q → a ≡ Refused q → n ≡ m → Answered M m c n a
  searched : (q : Query Sym) (k : Counts) → c ≡ Search q → refusal c ≡ None → a ≡ Searched (findings M q) k → Walk M m (reads M q) n k → Answered M m c n a
  limited : (l gone : ℕ) → c ≡ Limit l → refusal c ≡ None → a ≡ Dropped gone → Limited m l n gone → Answered M m c n a
  cleared : (gone : ℕ) → c ≡ Clear → a ≡ Dropped gone → n ≡ emptied m → gone ≡ steps_known m → Answered M m c n a

-- from the memory m the requests cs get the answers rs, in order, and leave n
abbrev pub Series : {Sym States : Type 0} → Subject Sym States → Memory States → List (Request Sym) → List Answer → Memory States → Type 0
Series M m [] [] n = n ≡ m
Series M m [] (a ∷ rs) n = ⊥
Series M m (c ∷ cs) [] n = ⊥
Series {States = States} M m (c ∷ cs) (a ∷ rs) n = (k : Memory States) × (Answered M m c k a × Series M k cs rs n)
