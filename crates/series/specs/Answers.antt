-- The answers of a series, in the law's words.
use Rattle.std.specs.Prelude.{ℕ, List, Ok, Err, Result}
use Rattle.refusal.specs.declared.Refusal.{Refusal}
use Rattle.theory.specs.declared.Span.{Span}
use Rattle.law.specs.Calls.{Dropped as Drops}
use Rattle.law.specs.Calls.{Answer as Reply}
use Rattle.search.specs.Calling.{found, listed, told, reply as reply_by}
use Rattle.series.specs.declared.answer.Answer.{Answer}
use Rattle.series.specs.declared.answer.Answer.TheVariants.{Found, Listed, Whole, Dropped}

-- what a call of a series comes to
abbrev pub Outcome : Type 0
Outcome = Result Answer Refusal

-- an answer, with the entries that the call was lent
abbrev pub answered : List Span → Answer → Reply
answered entries (Found x) = found x
answered entries (Listed x) = listed entries x
answered entries (Whole x) = told x
answered entries (Dropped gone) = Drops gone

abbrev pub reply : List Span → Outcome → Reply
reply entries = reply_by (answered entries)

abbrev pub listed_by : Answer → ℕ
listed_by (Found x) = 0
listed_by (Listed x) = x.written
listed_by (Whole x) = 0
listed_by (Dropped gone) = 0

-- how many entries it says were written
abbrev pub written : Outcome → ℕ
written (Ok a) = listed_by a
written (Err q) = 0
