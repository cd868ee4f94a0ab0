-- Pattern trees; an atom has the number of its test.
use Rattle.std.specs.Prelude.{ℕ}

pub data Tree : Type 0 where
  atom : ℕ → Tree
  join : Tree → Tree → Tree
  choice : Tree → Tree → Tree
  star : Tree → Tree
  plus : Tree → Tree
  maybe : Tree → Tree
