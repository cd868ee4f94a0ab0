-- The law over every series of calls on one searcher: what its answers are, what it remembers at the end, and how it counts.
use Rattle.std.specs.Prelude.{◌≡◌, ℕ, ◌+◌, ◌-◌, ◌*◌, ◌<◌, ◌≤◌, min, true, cond, T, ◌↔◌, List, [], ◌∷◌, ◌++◌, map, length, Some, None, Option, nat_lt}
use Rattle.refusal.specs.declared.Refusal.{Refusal}
use Rattle.theory.specs.Spans.{Finds}
use Rattle.theory.specs.Spans as spans
use Rattle.theory.specs.Reads.{State}
use Rattle.law.specs.Subject.{Subject, Word}
use Rattle.law.specs.Memory.{Memory, sets_live, steps_known, opened, Joins}
use Rattle.law.specs.Reading.{Counts, zeros}
use Rattle.law.specs.Calls.{Query, Find, Lists, Whole, Request, Search, Limit, Clear, Findings, Found, Listed, Told, Answer, Searched, Dropped, Refused, refusal, findings, reads, Answered, Series}
use Rattle.law.specs.Met.{number_of_sets, number_of_steps}

-- P holds of each call with its answer, and there is one for each
abbrev pub Each : {Sym : Type 0} → (Request Sym → Answer → Type 0) → List (Request Sym) → List Answer → Type 0
Each P [] [] = Unit {0}
Each P [] (a ∷ rs) = ⊥
Each P (c ∷ cs) [] = ⊥
Each P (c ∷ cs) (a ∷ rs) = P c a × Each P cs rs

-- the counts of an answer: of limit and clear what they dropped, of a refusal none
abbrev pub counts : Answer → Counts
counts (Searched f k) = k
counts (Dropped gone) = record { reads = 0; known = 0; built = 0; plain = 0; dropped = gone }
counts (Refused q) = zeros

-- What is found

-- the searches of a series, in order
abbrev pub searches : {Sym : Type 0} → List (Request Sym) → List (Query Sym)
searches [] = []
searches (Search q ∷ cs) = q ∷ searches cs
searches (Limit l ∷ cs) = searches cs
searches (Clear ∷ cs) = searches cs

-- the answers to the searches, in order
abbrev pub replies : {Sym : Type 0} → List (Request Sym) → List Answer → List Answer
replies [] rs = []
replies (c ∷ cs) [] = []
replies (Search q ∷ cs) (a ∷ rs) = a ∷ replies cs rs
replies (Limit l ∷ cs) (a ∷ rs) = replies cs rs
replies (Clear ∷ cs) (a ∷ rs) = replies cs rs

-- what a call comes to, but for how its reads were counted: findings and their reads, a refusal, or, of limit and clear, neither
pub data Outcome : Type 0 where
  finds : Findings → (reads : ℕ) → Outcome
  refuses : Refusal → Outcome
  drops : Outcome

abbrev pub outcome : Answer → Outcome
outcome (Searched f k) = finds f k.reads
outcome (Dropped gone) = drops
outcome (Refused q) = refuses q

abbrev pub or_refused : Option Refusal → Outcome → Outcome
or_refused None o = o
or_refused (Some q) o = refuses q

-- the definition of what a search comes to
abbrev pub define : {Sym States : Type 0} → Subject Sym States → Query Sym → Outcome
define M q = or_refused (refusal (Search q)) (finds (findings M q) (length (reads M q)))

-- findings by the words of the pattern: a find's is the leftmost-longest span, a list's the chain of such spans with its rest,
-- and a whole says whether the record is a word
abbrev pub Says : {Sym States : Type 0} → Subject Sym States → Query Sym → Findings → Type 0
Says M (Find r from) (Found x) = Finds (Word M) r from x
Says M (Find r from) (Listed w rest) = ⊥
Says M (Find r from) (Told y) = ⊥
Says M (Lists r from entries) (Found x) = ⊥
Says M (Lists r from entries) (Listed w rest) = spans.Lists (Word M) r from entries w rest
Says M (Lists r from entries) (Told y) = ⊥
Says M (Whole r) (Found x) = ⊥
Says M (Whole r) (Listed w rest) = ⊥
Says M (Whole r) (Told y) = T y ↔ Word M r

-- a search that is not refused finds what the words say
abbrev pub ByWords : {Sym States : Type 0} → Subject Sym States → Request Sym → Answer → Type 0
ByWords {Sym} M c a = (q : Query Sym) → c ≡ Search q → refusal c ≡ None → (f : Findings) × ((k : Counts) × ((a ≡ Searched f k) × Says M q f))

-- What is remembered

-- a clear came last
abbrev pub ClearLast : {Sym : Type 0} → List (Request Sym) → Type 0
ClearLast {Sym} cs = (before : List (Request Sym)) × (cs ≡ before ++ (Clear ∷ []))

-- the limit after a call: one that is refused changes nothing
abbrev pub next_limit : {Sym : Type 0} → ℕ → Request Sym → ℕ
next_limit l (Search q) = l
next_limit l (Limit k) = cond (nat_lt 64 k) l k
next_limit l Clear = l

-- the limit after a series
abbrev pub last_limit : {Sym : Type 0} → ℕ → List (Request Sym) → ℕ
last_limit l [] = l
last_limit l (c ∷ cs) = last_limit (next_limit l c) cs

-- How it is counted

abbrev pub built : List Answer → ℕ
built [] = 0
built (a ∷ rs) = (counts a).built + built rs

abbrev pub dropped : List Answer → ℕ
dropped [] = 0
dropped (a ∷ rs) = (counts a).dropped + dropped rs

-- reads = known + built + plain
abbrev pub Summed : {Sym : Type 0} → Request Sym → Answer → Type 0
Summed c a = (counts a).reads ≡ (counts a).known + (counts a).built + (counts a).plain

-- a find reads at most twice what lies behind its beginning
abbrev pub Short : {Sym : Type 0} → Request Sym → Answer → Type 0
Short {Sym} c a = (r : List Sym) (from : ℕ) → c ≡ Search (Find r from) → (counts a).reads ≤ 2 * (length r - from)

-- no search at an allowance of two or more has a plain read; l is the limit before
abbrev pub Unplain : {Sym : Type 0} → (places l : ℕ) → List (Request Sym) → List Answer → Type 0
Unplain places l [] rs = Unit {0}
Unplain places l (c ∷ cs) [] = Unit {0}
Unplain places l (c ∷ cs) (a ∷ rs) = (2 ≤ min l places → (counts a).plain ≡ 0) × Unplain places (next_limit l c) cs rs

-- nobody cleared
abbrev pub Uncleared : {Sym : Type 0} → List (Request Sym) → Type 0
Uncleared [] = Unit {0}
Uncleared (Search q ∷ cs) = Uncleared cs
Uncleared (Limit l ∷ cs) = Uncleared cs
Uncleared (Clear ∷ cs) = ⊥

-- the smallest allowance, from the limit l on
abbrev pub least : {Sym : Type 0} → (places l : ℕ) → List (Request Sym) → ℕ
least places l [] = min l places
least places l (c ∷ cs) = min (min l places) (least places (next_limit l c) cs)

-- on a searcher that was opened on a shelf of so many places and this capacity, the requests cs were answered rs, and left the memory n
pub record Lawful {Sym States : Type 0} (M : Subject Sym States) (places capacity : ℕ) (cs : List (Request Sym)) (rs : List Answer) (n : Memory States) : Type 0 where
  -- there is one answer for each call; findings, refusals and reads are those defined; findings are right by words
  pub answers : length rs ≡ length cs
  pub defined : map outcome (replies cs rs) ≡ map (define M) (searches cs)
  pub words : Each (ByWords M) cs rs
  -- the shelf's places and capacity stay; no set is live twice for one direction, none if a clear came last,
  -- never more than the allowance; every known step joins live sets as the step rule does
  pub fixed : (n.places ≡ places) × (n.capacity ≡ capacity)
  pub once : (p q : ℕ) (s : State States) → n.live p ≡ Some s → n.live q ≡ Some s → p ≡ q
  pub cleared : ClearLast cs → (p : ℕ) → n.live p ≡ None
  pub allowed : sets_live n ≤ min (last_limit 64 cs) places
  pub joins : (p c t : ℕ) → n.known p c ≡ Some t → Joins M n p c t
  -- every read of every search is counted just as its step has it
  pub counted : Series M (opened places capacity) cs rs n
  pub summed : Each Summed cs rs
  pub short : Each Short cs rs
  -- steps built = steps known now + steps dropped
  pub balance : built rs ≡ steps_known n + dropped rs
  pub unplain : Unplain places 64 cs rs
  -- with room for all that is met, no step is dropped, and the steps built are the steps met
  pub exact : Uncleared cs → number_of_sets M cs ≤ least places 64 cs → number_of_steps M cs ≤ capacity → (dropped rs ≡ 0) × (built rs ≡ number_of_steps M cs)

abbrev pub EverySeries : {Sym States : Type 0} → Subject Sym States → Type 0
EverySeries {Sym} {States} M =
    (places capacity : ℕ) (cs : List (Request Sym)) (rs : List Answer) (n : Memory States) →
    places ≤ 64 → (0 < places → 0 < capacity) → Series M (opened places capacity) cs rs n → Lawful M places capacity cs rs n

-- the same searches in order have the same findings, refusals and reads, whatever shelf, policy, limits and clears each series has
abbrev pub AnyTwo : {Sym States : Type 0} → Subject Sym States → Type 0
AnyTwo {Sym} {States} M =
    (places capacity : ℕ) (cs : List (Request Sym)) (rs : List Answer) (n : Memory States) →
    (places' capacity' : ℕ) (ds : List (Request Sym)) (ts : List Answer) (k : Memory States) →
    Lawful M places capacity cs rs n → Lawful M places' capacity' ds ts k → searches cs ≡ searches ds → map outcome (replies cs rs) ≡ map outcome (replies ds ts)

-- a refused call answers its refusal and changes nothing
abbrev pub RefusalsIdle : {Sym States : Type 0} → Subject Sym States → Type 0
RefusalsIdle {Sym} {States} M =
    (m : Memory States) (c : Request Sym) (n : Memory States) (a : Answer) (q : Refusal) →
    refusal c ≡ Some q → Answered M m c n a → (a ≡ Refused q) × (n ≡ m)

-- every symbol of a row has a value that a symbol can have
abbrev pub Fit : {Sym States : Type 0} → Subject Sym States → List Sym → Type 0
Fit M [] = Unit {0}
Fit M (a ∷ w) = (M.fit a ≡ true) × Fit M w

abbrev pub Fitting : {Sym States : Type 0} → Subject Sym States → List (Request Sym) → Type 0
Fitting M [] = Unit {0}
Fitting M (Search (Find r from) ∷ cs) = Fit M r × Fitting M cs
Fitting M (Search (Lists r from entries) ∷ cs) = Fit M r × Fitting M cs
Fitting M (Search (Whole r) ∷ cs) = Fit M r × Fitting M cs
Fitting M (Limit l ∷ cs) = Fitting M cs
Fitting M (Clear ∷ cs) = Fitting M cs

-- every row of requests can be answered, on any shelf
abbrev pub Possible : {Sym States : Type 0} → Subject Sym States → Type 0
Possible {Sym} {States} M =
    (places capacity : ℕ) (cs : List (Request Sym)) →
    places ≤ 64 → (0 < places → 0 < capacity) → Fitting M cs → (rs : List Answer) × ((n : Memory States) × Series M (opened places capacity) cs rs n)

pub record Law {Sym States : Type 0} (M : Subject Sym States) : Type 0 where
  pub every : EverySeries M
  pub two : AnyTwo M
  pub idle : RefusalsIdle M
  pub possible : Possible M
