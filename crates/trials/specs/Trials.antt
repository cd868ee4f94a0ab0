-- Worked examples: what texts are refused for, what searches find, and how every searcher counts them.
use Rattle.std.specs.Prelude.{◌≡◌, ℕ, ◌<◌, ◌≤◌, true, List, [], ◌∷◌, Some, None, codes}
use Prim.Native.String.{String}
use Rattle.refusal.specs.declared.Cause.TheVariants.{FromPastEnd, LimitTooLarge}
use Rattle.theory.specs.declared.Span.{Span}
use Rattle.reader.specs.Trials.{Trials as ReadingTrials}
use Rattle.law.specs.Subject.{Subject}
use Rattle.law.specs.Memory.{Memory, opened}
use Rattle.law.specs.Calls.{Query, Find, Lists, Whole, Request, Search, Limit, Found, Listed, Told, Answer, Searched, Dropped, refusal, Series}
use Rattle.law.specs.Law.{define, finds, refuses, Outcome}
use Rattle.trials.specs.Texts.{written}

abbrev pub span : ℕ → ℕ → Span
span s e = record { start = s; end = e }

-- what a find with the pattern in the record, from its beginning, comes to
abbrev pub found_in : String → String → Outcome
found_in pattern row = define (written pattern) (Find (codes row) 0)

-- on every searcher that was opened on such a shelf, whatever its policy, the requests get these answers
abbrev pub Always : Subject ℕ ℕ → (places capacity : ℕ) → List (Request ℕ) → List Answer → Type 0
Always M places capacity cs answers = places ≤ 64 → (rs : List Answer) (n : Memory ℕ) → Series M (opened places capacity) cs rs n → rs ≡ answers

-- a find in "abb"
abbrev pub abb : Query ℕ
abb = Find (codes "abb") 0

-- (0, 3) after six reads
abbrev pub counted : (known built plain dropped : ℕ) → Answer
counted known built plain dropped = Searched (Found (Some (span 0 3))) (record { reads = 6; known = known; built = built; plain = plain; dropped = dropped })

pub record Trials : Type 0 where
  -- texts that are refused, by number and place
  pub reading : ReadingTrials
  -- the longest of the leftmost words, whatever the order of the branches
  pub longest : found_in "a|ab" "xab" ≡ finds (Found (Some (span 1 3))) 5
  pub leftmost : found_in "abcd|c" "abcd" ≡ finds (Found (Some (span 0 4))) 8
  -- a find answers no empty word; the empty record is one
  pub never_empty : found_in "a*" "bb" ≡ finds (Found None) 2
  pub empty_whole : define (written "a*") (Whole []) ≡ finds (Told true) 0
  -- with two entries
  pub listed : define (written "a") (Lists (codes "aaa") 0 2) ≡ finds (Listed (span 0 1 ∷ span 1 2 ∷ []) (Some 2)) 11
  -- built at first, and known when repeated, where the shelf has room
  pub roomy : (places capacity : ℕ) → 6 ≤ places → 6 ≤ capacity → Always (written "ab*") places capacity (Search abb ∷ Search abb ∷ []) (counted 0 6 0 0 ∷ counted 6 0 0 0 ∷ [])
  -- at the limit 1
  pub alone : (places capacity : ℕ) → 0 < places → 0 < capacity → Always (written "ab*") places capacity (Limit 1 ∷ Search abb ∷ []) (Dropped 0 ∷ counted 0 2 4 1 ∷ [])
  -- each bound is accepted, and one more is refused
  pub least : refusal {Sym = ℕ} (Limit 0) ≡ None
  pub most : refusal {Sym = ℕ} (Limit 64) ≡ None
  pub above : refusal {Sym = ℕ} (Limit 65) ≡ Some (record { cause = LimitTooLarge; place = 0 })
  pub end : define (written "a") (Find [] 0) ≡ finds (Found None) 0
  pub past : define (written "a") (Find [] 1) ≡ refuses (record { cause = FromPastEnd; place = 0 })
