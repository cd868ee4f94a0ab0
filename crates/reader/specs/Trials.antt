-- Worked examples: the number and the place of a refusal, by the definitions alone.
use Rattle.std.specs.Prelude.{◌≡◌, ℕ, [], ◌∷◌, Some, None, codes, Option}
use Prim.Native.String.{String}
use Rattle.refusal.specs.Causes.{number_of}
use Rattle.pattern.specs.declared.Code.{Code}
use Rattle.byte_notation.specs.Lexing.{lexed as lexed_byte}
use Rattle.event_notation.specs.Reading.{lexed as lexed_event}
use Rattle.reader.specs.Reading.{Reading, reading, codes_read}
use Rattle.reader.specs.Reading.Reading.{accepted, refused}

-- the number and the place of a refusal
abbrev pub told : {T : Type 0} → Reading T → Option (ℕ × ℕ)
told (accepted ts cs) = None
told (refused e) = Some (number_of e.cause, e.place)

-- the text is refused with that number at that place
abbrev pub Bytes : String → ℕ → ℕ → Type 0
Bytes text number place = told (reading lexed_byte (codes text)) ≡ Some (number, place)

abbrev pub Events : String → ℕ → ℕ → Type 0
Events text number place = told (reading lexed_event (codes text)) ≡ Some (number, place)

pub record Trials : Type 0 where
  pub empty : Bytes "" 11 0
  pub no_branch : Bytes "a|" 11 2
  pub no_opening : Bytes "a)" 12 1
  pub no_closing : Bytes "(a" 13 2
  pub reversed_range : Events "4:7-6" 7 2
  -- items come before structure
  pub item_first : Bytes "*$" 4 1
  -- a missing operand comes before a parenthesis
  pub operand_first : Bytes "a|)" 11 2
  pub empty_group : Bytes "()" 11 1
  -- trailing spaces count
  pub trailing_space : Events "4 | " 11 4
  -- chains and choices group from the left
  pub grouped : codes_read (reading lexed_byte (codes "a|bcd*")) ≡ Code.Atom ∷ Code.Atom ∷ Code.Atom ∷ Code.Join ∷ Code.Atom ∷ Code.Star ∷ Code.Join ∷ Code.Choice ∷ []
