-- The tests that the classes of bytes were made with.
use Rattle.std.specs.Prelude.{List}
use Rattle.symbols.specs.declared.ByteTest.{ByteTest}
use Rattle.byte_classes.specs.declared.ByteClasses.{ByteClasses}

abbrev pub byte_tests : ByteClasses → List ByteTest
byte_tests a = a.tests.items
