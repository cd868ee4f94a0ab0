-- What the tables of the classes of bytes hold, and how they are made.
use Rattle.std.specs.Prelude.{◌≡◌, ℕ, ◌+◌, ◌*◌, ◌<◌, ◌≤◌, cond, List, length, fold, ◌≢◌, slice_index, slice_index_or}
use Rattle.sets.specs.Members.{Members, shared, below}
use Rattle.sets.specs.Positions.{holds, width}
use Rattle.sets.specs.Positions.{PositionSet}
use Rattle.symbols.specs.declared.ByteTest.{ByteTest}
use Rattle.symbols.specs.Tests.{passes_byte}
use Rattle.byte_classes.specs.declared.table.ByteTable.{ByteTable}
use Rattle.alphabet.specs.Asked.{asked}
use Rattle.byte_classes.specs.Numbering.{member}
use Rattle.byte_classes.specs.Classes.{alike, byte_classes, byte_class}

-- the tests that a byte passes, as a set
abbrev pub byte_answers : List ByteTest → ℕ → Members
byte_answers ts b = asked (λ t. passes_byte t b) ts

-- as far as a set of positions can hold them
abbrev pub passed_byte : List ByteTest → ℕ → Members
passed_byte ts b = shared (below width) (byte_answers ts b)

-- the table has the number of classes and the class of each byte
abbrev pub Tabled : List ByteTest → ByteTable → Type 0
Tabled ts table = (length table.passing.items ≡ byte_classes ts) × ((b : ℕ) → b < 256 → slice_index table.class b ≡ byte_class ts b)

-- it has the tests that each class passes
abbrev pub Told : List ByteTest → ByteTable → Type 0
Told ts table = (c k : ℕ) (d : PositionSet) → c < byte_classes ts → holds (slice_index_or table.passing.items c d) k ≡ passed_byte ts (member (alike ts) 256 c) k

-- the answers of the tests to a byte, as the digits of a number to the base 2
abbrev pub row : List ByteTest → ℕ → ℕ
row ts b = fold (λ n t. n * 2 + cond (passes_byte t b) 1 0) 0 ts

-- r is the first place at which rows has what it has at b
pub record FirstLike (rows : List ℕ) (b r : ℕ) : Type 0 where
  pub low : r ≤ b
  pub like : slice_index rows r ≡ slice_index rows b
  pub first : (a : ℕ) → a < r → slice_index rows a ≢ slice_index rows b
