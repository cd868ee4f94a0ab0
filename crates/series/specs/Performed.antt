-- The requests and the replies of a series of calls: the lists take their entries from one pool, one after the other.
use Rattle.std.specs.Prelude.{◌≡◌, ℕ, ◌+◌, ◌-◌, min, List, [], ◌∷◌, ◌++◌, map, length, take, drop}
use Rattle.sets.specs.Positions.{PositionSet}
use Rattle.theory.specs.declared.Span.{Span}
use Rattle.law.specs.Subject.{Subject}
use Rattle.law.specs.Memory.{Memory, opened}
use Rattle.law.specs.Law.{Lawful, searches, outcome, replies as law_replies}
use Rattle.law.specs.Calls.{Request, Search, Find, Lists, Whole, Limit, Clear, Answer as Reply, Series}
use Rattle.series.specs.declared.series.Call.{Call}
use Rattle.series.specs.declared.series.Call.TheVariants as call
use Rattle.series.specs.Answers.{Outcome, reply, written}

-- how many entries a call takes if so many are left
abbrev pub portion : {Sym : Type 0} → Call Sym → ℕ → ℕ
portion (call.Find r from) left = 0
portion (call.List r from entries) left = min entries left
portion (call.Whole r) left = 0
portion (call.Limit l) left = 0
portion call.Clear left = 0

-- what a call asks for that is lent n entries
abbrev pub request : {Sym : Type 0} → ℕ → Call Sym → Request Sym
request n (call.Find r from) = Search (Find r.now from)
request n (call.List r from entries) = Search (Lists r.now from n)
request n (call.Whole r) = Search (Whole r.now)
request n (call.Limit l) = Limit l
request n call.Clear = Clear

-- what the calls ask for, with so many entries left
abbrev pub requests : {Sym : Type 0} → ℕ → List (Call Sym) → List (Request Sym)
requests left [] = []
requests left (c ∷ cs) = request (portion c left) c ∷ requests (left - portion c left) cs

-- how many entries they take
abbrev pub taken : {Sym : Type 0} → ℕ → List (Call Sym) → ℕ
taken left [] = 0
taken left (c ∷ cs) = portion c left + taken (left - portion c left) cs

-- f of the entries of each call and its answer
abbrev pub each : {Sym B : Type 0} → (List Span → Outcome → B) → List Span → List (Call Sym) → List Outcome → List B
each f pool [] rs = []
each f pool (c ∷ cs) [] = []
each f pool (c ∷ cs) (a ∷ rs) = f (take (portion c (length pool)) pool) a ∷ each f (drop (portion c (length pool)) pool) cs rs

-- their answers, with what was written into the pool
abbrev pub replies : {Sym : Type 0} → List Span → List (Call Sym) → List Outcome → List Reply
replies = each reply

-- the entries of each call that its answer does not say were written
abbrev pub behind : {Sym : Type 0} → List Span → List (Call Sym) → List Outcome → List (List Span)
behind = each (λ part a. drop (written a) part)

-- the same searches in order come to the same findings, refusals and reads
abbrev pub Same : {Sym : Type 0} → List (Request Sym) → List Reply → List (Request Sym) → List Reply → Type 0
Same cs rs ds ts = searches cs ≡ searches ds → map outcome (law_replies cs rs) ≡ map outcome (law_replies ds ts)

-- whatever other series keeps the law, on any shelf, with any policy, limits and clears: the same searches in order
-- come to the same findings, refusals and reads
abbrev pub Agrees : {Sym : Type 0} → Subject Sym PositionSet → List (Request Sym) → List Reply → Type 0
Agrees {Sym} X cs rs =
    (places capacity : ℕ) (ds : List (Request Sym)) (ts : List Reply) (k : Memory PositionSet) →
    Lawful X places capacity ds ts k → searches cs ≡ searches ds → map outcome (law_replies cs rs) ≡ map outcome (law_replies ds ts)

-- the calls cs, answered rs, led from the memory m to n: whatever series led from the opening to m, both together keep the law
abbrev pub Continues : {Sym : Type 0} → Subject Sym PositionSet → Memory PositionSet → List (Request Sym) → List Reply → Memory PositionSet → Type 0
Continues {Sym} X m cs rs n =
    (ds : List (Request Sym)) (ts : List Reply) →
    Series X (opened m.places m.capacity) ds ts m → Lawful X m.places m.capacity (ds ++ cs) (ts ++ rs) n

-- what a series leaves as it was: the answers behind those that it made, and the entries that no list wrote
pub record Spared {Sym : Type 0} (made : ℕ) (calls : List (Call Sym)) (entries entries' : List Span) (answers answers' : List Outcome) : Type 0 where
  pub unanswered : drop made answers' ≡ drop made answers
  pub unwritten : behind entries' (take made calls) (take made answers') ≡ behind entries (take made calls) (take made answers')
  pub untaken : drop (taken (length entries) (take made calls)) entries' ≡ drop (taken (length entries) (take made calls)) entries
