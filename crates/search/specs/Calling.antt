-- What a call on a searcher does, in the law's words.
use Rattle.std.specs.Prelude.{ℕ, List, take, Ok, Err, Result}
use Rattle.memory.specs.declared.shelf.Shelf.{Ghosts as ShelfMeaning}
use Rattle.memory.specs.declared.policy.Policy.{Ghosts as PolicyMeaning}
use Rattle.refusal.specs.declared.Refusal.{Refusal}
use Rattle.theory.specs.declared.Span.{Span}
use Rattle.law.specs.Calls.{Request, Searched, Found as Finds, Listed as Lists, Told, Refused as Refuses, Answered}
use Rattle.law.specs.Calls.{Answer as Reply}
use Rattle.automaton.specs.declared.automaton.Automaton.{Ghosts as AutomatonMeaning}
use Rattle.search.specs.declared.scanner.Scanner.{Scanner}
use Rattle.search.specs.declared.answer.Found.{Found}
use Rattle.search.specs.declared.answer.Listed.{Listed}
use Rattle.search.specs.declared.answer.Whole.{Whole}
use Rattle.search.specs.Counted.{tallied}
use Rattle.search.specs.Remembered.{memory, subject, Ready}

abbrev pub found : Found → Reply
found x = Searched (Finds x.span) (tallied x.counts)

-- with the entries that the list was lent
abbrev pub listed : List Span → Listed → Reply
listed entries x = Searched (Lists (take x.written entries) x.rest) (tallied x.counts)

abbrev pub told : Whole → Reply
told x = Searched (Told x.is_word) (tallied x.counts)

-- a refusal, or what a call answers otherwise
abbrev pub reply : {A : Type 0} → (A → Reply) → Result A Refusal → Reply
reply f (Ok x) = f x
reply f (Err q) = Refuses q

-- how many entries a list says were written
abbrev pub written : Result Listed Refusal → ℕ
written (Ok x) = x.written
written (Err q) = 0

-- the call was answered as the law has it
abbrev pub Called : {M S P Sym : Type 0} → AutomatonMeaning M Sym → ShelfMeaning S → PolicyMeaning P → Scanner M S P → Request Sym → Scanner M S P → Reply → Type 0
Called automaton shelf policy before c after a = Answered (subject automaton before) (memory shelf policy before) c (memory shelf policy after) a

-- so it was, and the fields fit together for the next
pub record Did {M S P Sym : Type 0} (automaton : AutomatonMeaning M Sym) (shelf : ShelfMeaning S) (policy : PolicyMeaning P) (before : Scanner M S P) (c : Request Sym) (after : Scanner M S P) (a : Reply) : Type 0 where
  pub answered : Called automaton shelf policy before c after a
  pub ready : Ready automaton shelf policy after
