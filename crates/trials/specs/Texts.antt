-- What is searched for with a pattern's text over bytes, by the definitions of reading, classes and positions alone.
use Rattle.std.specs.Prelude.{ℕ, List, codes, nat_lt}
use Prim.Native.String.{String}
use Rattle.pattern.specs.Codes.{tree}
use Rattle.pattern.specs.declared.Code.{Code}
use Rattle.symbols.specs.declared.ByteTest.{ByteTest}
use Rattle.byte_notation.specs.Lexing.{lexed}
use Rattle.reader.specs.Reading.{reading, tests_read, codes_read}
use Rattle.byte_classes.specs.Classes.{byte_passes, byte_class}
use Rattle.law.specs.Subject.{Subject}
use Rattle.law.specs.Alphabets.{masked}

-- the pattern of a draft that holds these tests and codes, its sets of positions as numbers of 64 bits
abbrev pub drafted : List ByteTest → List Code → Subject ℕ ℕ
drafted ts cs = masked 64 (byte_passes ts) (tree cs) (λ b. nat_lt b 256) (byte_class ts)

-- the pattern that the text is read as
abbrev pub written : String → Subject ℕ ℕ
written text = drafted (tests_read (reading lexed (codes text))) (codes_read (reading lexed (codes text)))
