-- What the tables of the classes of events hold.
use Rattle.std.specs.Prelude.{◌≡◌, ℕ, ◌+◌, ◌*◌, ◌<◌, List, length, slice_index_or}
use Rattle.sets.specs.Members.{Members, shared, below}
use Rattle.sets.specs.Positions.{holds, width}
use Rattle.sets.specs.Positions.{PositionSet}
use Rattle.symbols.specs.declared.EventTest.{EventTest}
use Rattle.symbols.specs.Tests.{passes_code}
use Rattle.event_classes.specs.declared.table.KindClasses.{KindClasses}
use Rattle.event_classes.specs.declared.table.CutTable.{CutTable}
use Rattle.alphabet.specs.Asked.{asked}
use Rattle.event_classes.specs.Cuts.{cuts, at_or_below, event_classes, lowest_code}

-- the tests that an event with the code passes, as a set
abbrev pub event_answers : List EventTest → ℕ → Members
event_answers ts code = asked (λ t. passes_code t code) ts

-- as far as a set of positions can hold them
abbrev pub passed_code : List EventTest → ℕ → Members
passed_code ts code = shared (below width) (event_answers ts code)

-- the classes of the lowest and of the highest code of the kind k
abbrev pub KindRight : List ℕ → ℕ → KindClasses → Type 0
KindRight cs k kind = (kind.lowest ≡ at_or_below (k * 65536 + 0) cs) × (kind.highest ≡ at_or_below (k * 65536 + 65535) cs)

-- those of each kind
abbrev pub KindsRight : List ℕ → List KindClasses → Type 0
KindsRight cs kinds = (k : ℕ) (d : KindClasses) → k < 256 → KindRight cs k (slice_index_or kinds k d)

-- the table has the cuts, a row for each class, and the classes of each kind
abbrev pub CutRight : List EventTest → CutTable → Type 0
CutRight ts table = (table.cuts ≡ cuts ts) × (length table.passing.items ≡ event_classes ts) × KindsRight (cuts ts) table.kinds

-- it has the tests that each class passes
abbrev pub CutTold : List EventTest → CutTable → Type 0
CutTold ts table = (c k : ℕ) (d : PositionSet) → c < event_classes ts → holds (slice_index_or table.passing.items c d) k ≡ passed_code ts (lowest_code (cuts ts) c) k
