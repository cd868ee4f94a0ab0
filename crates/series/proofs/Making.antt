-- One call of a series, from the call on the searcher.
use Rattle.std.proofs.Common.{◌≡◌, ℕ, List, Ok, Err, Result, IsOkAnd, MatchResult, sym, ap, ◌∙◌, subst}
use Rattle.refusal.specs.declared.Refusal.{Refusal}
use Rattle.memory.specs.declared.shelf.Shelf.{Ghosts as ShelfMeaning}
use Rattle.memory.specs.declared.policy.Policy.{Ghosts as PolicyMeaning}
use Rattle.theory.specs.declared.Span.{Span}
use Rattle.law.specs.Calls.{Answer as Reply}
use Rattle.automaton.specs.declared.automaton.Automaton.{Ghosts as AutomatonMeaning}
use Rattle.search.specs.declared.scanner.Scanner.{Scanner}
use Rattle.search.specs.Calling.{Called, reply as reply_by}
use Rattle.series.specs.declared.answer.Answer.{Answer}
use Rattle.series.specs.declared.series.Call.{Call}
use Rattle.series.specs.Answers.{Outcome, answered, reply}
use Rattle.series.specs.Performed.{request}

-- v makes an answer of what a call came to, unless it was refused
mapped : {A : Type 0} (f : A → Reply) (v : A → Answer) (entries : List Span) (r : Result A Refusal) (o : Outcome) → ((x : A) → answered entries (v x) ≡ f x) → MatchResult r (λ x. IsOkAnd o (λ y. y ≡ v x)) (λ q. o ≡ Err q) → reply entries o ≡ reply_by f r
mapped f v entries (Ok x) (Ok y) h e = ap (answered entries) e ∙ h x
mapped f v entries (Ok x) (Err q) h e = absurd e
mapped f v entries (Err q) o h e = ap (reply entries) e

module _ {M S P Sym : Type 0} (automaton : AutomatonMeaning M Sym) (shelf : ShelfMeaning S) (policy : PolicyMeaning P) where
  pub made : {A : Type 0} (s n : Scanner M S P) (k : ℕ) (call call' : Call Sym) (f : A → Reply) (v : A → Answer) (entries : List Span) (r : Result A Refusal) (o : Outcome) → ((x : A) → answered entries (v x) ≡ f x) → call ≡ call' → MatchResult r (λ x. IsOkAnd o (λ y. y ≡ v x)) (λ q. o ≡ Err q) → Called automaton shelf policy s (request k call') n (reply_by f r) → Called automaton shelf policy s (request k call) n (reply entries o)
  made s n k call call' f v entries r o h is e did =
      subst (λ y. Called automaton shelf policy s (request k y) n (reply entries o)) (sym is)
      (subst (λ y. Called automaton shelf policy s (request k call') n y) (sym (mapped f v entries r o h e)) did)
