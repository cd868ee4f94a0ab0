-- Which symbols pass a test.
use Rattle.std.specs.Prelude.{ℕ, ◌+◌, ◌*◌, ◌/◌, ◌%◌, ◌^◌, Bool, cond, not, ◌&&◌, ◌==◌, nat_le, slice_index}
use Rattle.symbols.specs.declared.ByteTest.{ByteTest}
use Rattle.symbols.specs.declared.Event.{Event}
use Rattle.symbols.specs.declared.EventTest.{EventTest}

-- the bit b mod 8 of the byte b div 8 is 1
abbrev pub passes_byte : ByteTest → ℕ → Bool
passes_byte t b = slice_index t.bits (b / 8) / 2 ^ (b % 8) % 2 == 1

abbrev pub code_of : Event → ℕ
code_of e = e.kind * 65536 + e.value

-- the code lies in the range, or outside if the test is inverted
abbrev pub passes_code : EventTest → ℕ → Bool
passes_code t c = cond t.inverted (not (nat_le t.low c && nat_le c t.high)) (nat_le t.low c && nat_le c t.high)
