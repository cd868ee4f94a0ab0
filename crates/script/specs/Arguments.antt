-- What stands behind the first word of a command.
use Rattle.std.specs.Prelude.{ℕ, List, [], ◌∷◌, Some, None, Ok, Err, Option, Result}
use Rattle.script.specs.Words.{up_to, past, trimmed}
use Rattle.script.specs.Numbers.{number_of}
use Rattle.script.specs.declared.mistake.Mistake.{Mistake}

abbrev pub number_or : Option ℕ → Result ℕ Mistake
number_or (Some n) = Ok n
number_or None = Err Mistake.BadNumber

-- a number, and nothing else
abbrev pub number_behind : List ℕ → Result ℕ Mistake
number_behind rest = number_or (number_of (trimmed rest))

-- the first word as a number
abbrev pub count_before : List ℕ → Result ℕ Mistake
count_before rest = number_or (number_of (up_to 32 rest))

abbrev pub both : Result ℕ Mistake → Result ℕ Mistake → Result (ℕ × ℕ) Mistake
both (Ok m) (Ok n) = Ok (m, n)
both (Ok m) (Err e) = Err e
both (Err e) n = Err e

abbrev pub two_behind : List ℕ → Result (ℕ × ℕ) Mistake
two_behind rest = both (count_before rest) (number_behind (past 32 rest))

abbrev pub end_or : List ℕ → Result (Unit {0}) Mistake
end_or [] = Ok tt
end_or (x ∷ xs) = Err Mistake.Surplus

-- nothing but blanks
abbrev pub end_behind : List ℕ → Result (Unit {0}) Mistake
end_behind rest = end_or (trimmed rest)
