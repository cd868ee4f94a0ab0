-- The classes of bytes under a draft's tests.
use Rattle.std.specs.Prelude.{◌≡◌, ℕ, ◌<◌, ◌≤◌, Bool, true, ◌&&◌, List, [], ◌∷◌, nat_lt}
use Rattle.std.specs.Bool.{beq}
use Rattle.symbols.specs.declared.ByteTest.{ByteTest}
use Rattle.symbols.specs.Tests.{passes_byte}
use Rattle.alphabet.specs.Asked.{asked}
use Rattle.byte_classes.specs.Numbering.{smallest, class_of, classes, member}

-- the byte b passes the test with the number k
abbrev pub byte_passes : List ByteTest → ℕ → ℕ → Bool
byte_passes ts k b = asked (λ t. passes_byte t b) ts k

-- every test treats a and b alike
abbrev pub alike : List ByteTest → ℕ → ℕ → Bool
alike [] a b = true
alike (t ∷ ts) a b = beq (passes_byte t a) (passes_byte t b) && alike ts a b

abbrev pub byte_classes : List ByteTest → ℕ
byte_classes ts = classes (alike ts) 256

abbrev pub byte_class : List ByteTest → ℕ → ℕ
byte_class ts b = class_of (alike ts) b

-- the class c passes the test with the number k, as its smallest byte does
abbrev pub byte_accepts : List ByteTest → ℕ → ℕ → Bool
byte_accepts ts c k = nat_lt c (byte_classes ts) && byte_passes ts k (member (alike ts) 256 c)

-- The law of the classes of bytes, which settles the number of every class
pub record Classified (ts : List ByteTest) : Type 0 where
  -- bytes that every test treats alike share a class ..
  pub together : (a b : ℕ) → a < 256 → b < 256 → ((k : ℕ) → byte_passes ts k a ≡ byte_passes ts k b) → byte_class ts a ≡ byte_class ts b
  -- .. and bytes of one class are treated alike by every test
  pub apart : (a b : ℕ) → a < 256 → b < 256 → byte_class ts a ≡ byte_class ts b → (k : ℕ) → byte_passes ts k a ≡ byte_passes ts k b
  -- the smallest byte of a class is in it, and none smaller
  pub own : (b : ℕ) → b < 256 → byte_class ts (smallest (alike ts) b) ≡ byte_class ts b
  pub least : (a b : ℕ) → a < 256 → b < 256 → byte_class ts a ≡ byte_class ts b → smallest (alike ts) b ≤ a
  -- the class with the smaller smallest byte has the smaller number
  pub ordered : (a b : ℕ) → a < 256 → b < 256 → smallest (alike ts) a < smallest (alike ts) b → byte_class ts a < byte_class ts b
  -- the numbers go from 0 up without a gap
  pub within : (b : ℕ) → b < 256 → byte_class ts b < byte_classes ts
  pub used : (c : ℕ) → c < byte_classes ts → (b : ℕ) × (b < 256) × (byte_class ts b ≡ c)
