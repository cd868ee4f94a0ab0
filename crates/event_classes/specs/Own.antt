-- The tests that the classes of events were made with.
use Rattle.std.specs.Prelude.{List}
use Rattle.symbols.specs.declared.EventTest.{EventTest}
use Rattle.event_classes.specs.declared.EventCuts.{EventCuts}

abbrev pub event_tests : EventCuts → List EventTest
event_tests a = a.tests.items
