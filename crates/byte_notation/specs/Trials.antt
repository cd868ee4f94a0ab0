-- Worked examples of what the byte notation reads at the start of a text.
use Rattle.std.specs.Prelude.{◌≡◌, ℕ, List, [], ◌∷◌, length, Ok, codes}
use Prim.Native.String.{String}
use Rattle.refusal.specs.declared.Cause.{Cause}
use Rattle.refusal.specs.declared.Cause.TheVariants.{NoItem, BadEscape, UnclosedBracket, ReversedRange}
use Rattle.items.specs.declared.Sign.TheVariants.{Bar}
use Rattle.symbols.specs.ByteSets.{no_byte, with_byte, others}
use Rattle.byte_notation.specs.declared.classes.ByteRange.{ByteRange}
use Rattle.byte_notation.specs.Brackets.{with_ranges}
use Rattle.byte_notation.specs.Classes.{span}
use Rattle.items.specs.Lexemes.{signed, atom}
use Rattle.byte_notation.specs.Lexing.{lexed, refused, only_byte, any_byte}

-- the text begins with an atom of some width, which passes the ranges
abbrev pub Front : String → ℕ → List ByteRange → Type 0
Front text width rs = lexed 0 (codes text) ≡ Ok (atom (with_ranges no_byte rs) width)

-- the text is one atom, which passes the ranges
abbrev pub Whole : String → List ByteRange → Type 0
Whole text rs = Front text (length (codes text)) rs

abbrev pub Fails : String → Cause → ℕ → Type 0
Fails text cause place = lexed 0 (codes text) ≡ refused cause place

abbrev pub just : ℕ → ByteRange
just b = span b b

pub record Trials : Type 0 where
  pub bar : lexed 0 (codes "|a") ≡ Ok (signed Bar)
  pub dot : lexed 0 (codes ".") ≡ Ok (atom any_byte 1)
  pub closing_bracket : lexed 0 (codes "]") ≡ Ok (atom (only_byte 93) 1)
  pub escaped_line_feed : lexed 0 (codes "\\n") ≡ Ok (atom (only_byte 10) 2)
  pub escaped_dollar : lexed 0 (codes "\\$") ≡ Ok (atom (only_byte 36) 2)
  pub no_item : Fails "^a" NoItem 0
  pub no_item_brace : Fails "{" NoItem 0
  pub no_item_dollar : Fails "$" NoItem 0
  pub last_backslash : Fails "\\" BadEscape 0
  pub unknown_escape : Fails "\\a" BadEscape 0
  pub empty : Fails "[]" UnclosedBracket 0
  pub empty_inverted : Fails "[^]" UnclosedBracket 0
  pub unclosed_range : Fails "[a-" UnclosedBracket 0
  pub bracket_first : Whole "[]]" (just 93 ∷ [])
  pub bracket_first_inverted : lexed 0 (codes "[^]]") ≡ Ok (atom (others (with_byte (with_byte no_byte 93) 10)) 4)
  pub dash_first : Whole "[-a]" (just 45 ∷ just 97 ∷ [])
  pub dash_last : Whole "[a-]" (just 97 ∷ just 45 ∷ [])
  pub from_dash : Whole "[--/]" (span 45 47 ∷ [])
  pub dashes : Whole "[--]" (just 45 ∷ [])
  pub to_dash : Fails "[a--]" ReversedRange 1
  pub dash_between : Whole "[a-c-e]" (span 97 99 ∷ just 45 ∷ just 101 ∷ [])
  pub from_bracket : Whole "[]-a]" (span 93 97 ∷ [])
  pub bracket_and_dash : Whole "[]-]" (just 93 ∷ just 45 ∷ [])
  pub reversed : Fails "[b-a]" ReversedRange 1
  pub reversed_unclosed : Fails "[b-a" ReversedRange 1
  pub to_class : Front "[A-[:digit:]]" 12 (span 65 91 ∷ just 58 ∷ just 100 ∷ just 105 ∷ just 103 ∷ just 105 ∷ just 116 ∷ just 58 ∷ [])
  pub from_class : Whole "[[:digit:]-z]" (span 48 57 ∷ just 45 ∷ just 122 ∷ [])
  pub unknown_class : Whole "[[:foo:]" (just 91 ∷ just 58 ∷ just 102 ∷ just 111 ∷ just 111 ∷ just 58 ∷ [])
  pub unclosed_class : Fails "[[:alpha:]" UnclosedBracket 0
  pub opened_class : Whole "[[:]" (just 91 ∷ just 58 ∷ [])
