-- What a searcher is opened with: `dense BYTES POLICY` or `pair POLICY`.
use Rattle.std.specs.Prelude.{ℕ, cond, List, Some, None, Ok, Err, codes, Option, Result}
use Rattle.script.specs.Words.{same, up_to, past, trimmed}
use Rattle.script.specs.Arguments.{count_before}
use Rattle.search_script.specs.Mistakes.{lifted}
use Rattle.search_script.specs.declared.command.ShelfChoice.{ShelfChoice}
use Rattle.search_script.specs.declared.command.PolicyChoice.{PolicyChoice}
use Rattle.search_script.specs.declared.command.Opening.{Opening}
use Rattle.search_script.specs.declared.command.Mistake.{Mistake}

abbrev pub policy_of : List ℕ → Option PolicyChoice
policy_of w = cond (same w (codes "flush")) (Some PolicyChoice.Flush) (cond (same w (codes "clock")) (Some PolicyChoice.Clock) None)

abbrev pub opened_on : ShelfChoice → Option PolicyChoice → Result Opening Mistake
opened_on s (Some p) = Ok (record { shelf = s; policy = p })
opened_on s None = Err Mistake.UnknownPolicy

abbrev pub dense_by : Result ℕ Mistake → List ℕ → Result Opening Mistake
dense_by (Ok bytes) word = opened_on (ShelfChoice.Dense bytes) (policy_of word)
dense_by (Err m) word = Err m

abbrev pub dense : List ℕ → Result Opening Mistake
dense rest = dense_by (lifted (count_before rest)) (past 32 rest)

abbrev pub opening_by : List ℕ → List ℕ → Result Opening Mistake
opening_by shelf rest =
    cond (same shelf (codes "dense")) (dense rest)
    (cond (same shelf (codes "pair")) (opened_on ShelfChoice.Pair (policy_of rest)) (Err Mistake.UnknownShelf))

abbrev pub opening : List ℕ → Result Opening Mistake
opening rest = opening_by (up_to 32 (trimmed rest)) (past 32 (trimmed rest))
