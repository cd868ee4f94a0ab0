-- Bytes that are written with hexadecimal digits, two for each.
use Rattle.std.specs.Prelude.{◌≡◌, ℕ, ◌+◌, ◌-◌, ◌*◌, cond, ◌&&◌, List, [], ◌∷◌, Some, None, Ok, Err, Option, Result, nat_le, codes}
use Rattle.script.specs.declared.hex.HexError.{HexError}
use Rattle.script.specs.declared.hex.HexError.TheVariants.{NotHex, NoMemory}

-- the value of a hexadecimal digit
abbrev pub hex_of : ℕ → Option ℕ
hex_of b =
    cond (nat_le 48 b && nat_le b 57) (Some (b - 48))
    (cond (nat_le 97 b && nat_le b 102) (Some (b - 97 + 10))
    (cond (nat_le 65 b && nat_le b 70) (Some (b - 65 + 10)) None))

-- the byte of two digits
abbrev pub pair_of : Option ℕ → Option ℕ → Option ℕ
pair_of (Some high) (Some low) = Some (high * 16 + low)
pair_of (Some high) None = None
pair_of None low = None

abbrev pub in_front : Option ℕ → Option (List ℕ) → Option (List ℕ)
in_front (Some b) (Some bs) = Some (b ∷ bs)
in_front (Some b) None = None
in_front None bs = None

-- the bytes of a text; none where a digit lacks its second or something else stands there
abbrev pub bytes_of : List ℕ → Option (List ℕ)
bytes_of [] = Some []
bytes_of (x ∷ []) = None
bytes_of (x ∷ y ∷ rest) = in_front (pair_of (hex_of x) (hex_of y)) (bytes_of rest)

-- the bytes are those of the text, or it has none; without memory nothing is said
abbrev pub ReadAs : List ℕ → List ℕ → Result (Unit {0}) HexError → Type 0
ReadAs text bytes (Ok _) = bytes_of text ≡ Some bytes
ReadAs text bytes (Err NotHex) = bytes_of text ≡ None
ReadAs text bytes (Err NoMemory) = Unit {0}

-- what it says to people that a text is not read
abbrev pub hex_error_text : HexError → List ℕ
hex_error_text NotHex = codes "the text is not pairs of hexadecimal digits"
hex_error_text NoMemory = codes "out of memory"
