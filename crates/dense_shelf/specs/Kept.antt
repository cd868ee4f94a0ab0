-- The map that rows say, and what they leave of the bytes that they were lent.
use Rattle.std.specs.Prelude.{◌≡◌, ℕ}
use Rattle.memory.specs.Steps.{Map, size}
use Rattle.dense_shelf.specs.Rows.{dense, behind}
use Rattle.dense_shelf.specs.declared.rows.Rows.{Rows}

abbrev pub map_in : Rows → Map
map_in r = dense r.bytes.now r.places r.used.classes

-- the count is the size of their map
abbrev pub counted : Rows → ℕ → Type 0
counted r count = count ≡ size r.places (map_in r)

-- they still stand on the slice that they were lent, serve as many places, and the bytes behind theirs are as they were
pub record Untouched (before after : Rows) : Type 0 where
  pub lender : after.bytes.ghost_name ≡ before.bytes.ghost_name
  pub places : after.places ≡ before.places
  pub rest : behind before.places after.bytes.now ≡ behind before.places before.bytes.now
