-- Copies of a piece, one after the other.
use Rattle.std.specs.Prelude.{◌≡◌, ℕ, zero, suc, ◌*◌, ◌<◌, ◌≤◌, List, [], ◌++◌, length, Ok, Err, codes, Result}
use Rattle.records.specs.declared.repeat.RepeatError.{RepeatError}
use Rattle.records.specs.declared.repeat.RepeatError.TheVariants.{TooLong, NoMemory}

abbrev pub copies : {A : Type 0} → ℕ → List A → List A
copies zero xs = []
copies (suc n) xs = xs ++ copies n xs

-- how many symbols a record may have to be made
abbrev pub most_symbols : ℕ
most_symbols = 16777216

-- the copies if they are not too many, else nothing; without memory nothing is said
abbrev pub Repeated : {A : Type 0} → List A → ℕ → List A → Result (Unit {0}) RepeatError → Type 0
Repeated piece count made (Ok _) = (count * length piece ≤ most_symbols) × (made ≡ copies count piece)
Repeated piece count made (Err TooLong) = (most_symbols < count * length piece) × (made ≡ [])
Repeated piece count made (Err NoMemory) = Unit {0}

-- what it says to people that the copies are not made
abbrev pub repeat_error_text : RepeatError → List ℕ
repeat_error_text TooLong = codes "the copies have over 16,777,216 symbols"
repeat_error_text NoMemory = codes "out of memory"
