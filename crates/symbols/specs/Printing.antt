-- Tests as they are printed.
use Rattle.std.specs.Prelude.{ℕ, ◌/◌, ◌%◌, cond, List, [], ◌∷◌, ◌++◌, codes}
use Rattle.std.specs.Char.{digit_char}
use Rattle.std.specs.Fmt.{decimal}
use Rattle.std.specs.List.{flat_map}
use Rattle.symbols.specs.declared.ByteTest.{ByteTest}
use Rattle.symbols.specs.declared.EventTest.{EventTest}

-- a byte as two hexadecimal digits
abbrev pub hex_byte : ℕ → List ℕ
hex_byte b = digit_char (b / 16) ∷ digit_char (b % 16) ∷ []

abbrev pub byte_test_text : ByteTest → List ℕ
byte_test_text t = flat_map hex_byte t.bits

abbrev pub event_test_text : EventTest → List ℕ
event_test_text t = decimal t.low ++ codes " " ++ decimal t.high ++ codes " " ++ decimal (cond t.inverted 1 0)
