-- The sets of bytes that a byte test is made of: none, one byte or a range more, all others.
-- Each is given bit by bit, and then by which bytes pass.
use Rattle.std.specs.Prelude.{◌≡◌, ℕ, zero, suc, ◌+◌, ◌-◌, ◌/◌, ◌%◌, ◌^◌, ◌<◌, Bool, false, not, ◌&&◌, ◌||◌, map, replicate, bit_or, bit_xor, nat_le, slice_index, slice_set}
use Rattle.symbols.specs.declared.ByteTest.{ByteTest}
use Rattle.symbols.specs.Tests.{passes_byte}

abbrev pub no_byte : ByteTest
no_byte = record { bits = replicate 32 0 }

abbrev pub with_byte : ByteTest → ℕ → ByteTest
with_byte t b = record { bits = slice_set t.bits (b / 8) (bit_or (slice_index t.bits (b / 8)) (2 ^ (b % 8))) }

-- n bytes more, from b on
abbrev pub with_bytes : ByteTest → ℕ → ℕ → ByteTest
with_bytes t b zero = t
with_bytes t b (suc n) = with_bytes (with_byte t b) (b + 1) n

abbrev pub with_range : ByteTest → ℕ → ℕ → ByteTest
with_range t low high = with_bytes t low (high + 1 - low)

-- every bit turned
abbrev pub others : ByteTest → ByteTest
others t = record { bits = map (λ part. bit_xor part 255) t.bits }

abbrev pub between : ℕ → ℕ → ℕ → Bool
between low high x = nat_le low x && nat_le x high

-- no byte passes
abbrev pub Nothing : ByteTest → Type 0
Nothing t = (x : ℕ) → passes_byte t x ≡ false

-- u passes the bytes that are named, and those that t passes
abbrev pub Adds : (ℕ → Bool) → ByteTest → ByteTest → Type 0
Adds named t u = (x : ℕ) → passes_byte u x ≡ (named x || passes_byte t x)

-- u passes exactly the bytes that t does not pass
abbrev pub Inverts : ByteTest → ByteTest → Type 0
Inverts t u = (x : ℕ) → x < 256 → passes_byte u x ≡ not (passes_byte t x)
