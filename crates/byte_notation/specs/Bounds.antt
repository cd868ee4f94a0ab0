-- What the readers keep: places within the text.
use Rattle.std.specs.Prelude.{ℕ, ◌<◌, ◌≤◌, Some, None, Ok, Err, Option, Result}
use Rattle.refusal.specs.declared.Refusal.{Refusal}
use Rattle.byte_notation.specs.declared.brackets.Bracket.{Bracket}

-- the end of a range lies within the text that the range begins
abbrev pub Fitting : Option ℕ → ℕ → Type 0
Fitting (Some h) len = 2 < len
Fitting None len = Unit {0}

-- a bracket closes behind its start and within the text
abbrev pub Closing : Result Bracket Refusal → ℕ → ℕ → Type 0
Closing (Ok b) start len = (start < b.width) × (b.width ≤ len)
Closing (Err e) start len = Unit {0}
