-- What is searched for: a pattern over an alphabet, with sets of positions in any representation.
use Rattle.std.specs.Prelude.{◌≡◌, ℕ, ◌<◌, Bool, true, ◌↔◌, List, Option}
use Rattle.pattern.specs.Tree.{Tree}
use Rattle.theory.specs.declared.Direction.{Direction}
use Rattle.theory.specs.Words.{Words}
use Rattle.theory.specs.Positions.{positions, FromOne}
use Rattle.theory.specs.Machine.{Machine, Lawful, rule}

pub record Subject (Sym States : Type 0) : Type 0 where
  -- the pattern's tree; an empty draft has none
  pub tree : Option Tree
  -- whether a symbol passes a test
  pub passes : ℕ → Sym → Bool
  -- the sets of positions, with the step rule
  pub machine : Machine Sym States
  -- whether two sets of positions are one
  pub same : States → States → Bool
  -- the values that a symbol can have
  pub fit : Sym → Bool
  pub class_of : Sym → ℕ

-- the pattern's words
abbrev pub Word : {Sym States : Type 0} → Subject Sym States → List Sym → Type 0
Word M = Words M.passes M.tree

-- the step rule
abbrev pub leads : {Sym States : Type 0} → Subject Sym States → Direction → States → Sym → States
leads M = rule M.machine

-- the parts fit together
pub record Proper {Sym States : Type 0} (M : Subject Sym States) : Type 0 where
  -- the atoms are numbered from 1 on, and the sets are those that the step rule gives for their positions
  pub numbered : FromOne M.tree
  pub lawful : Lawful M.passes (positions M.tree) M.machine
  pub one : (S R : States) → (M.same S R ≡ true) ↔ (S ≡ R)
  -- classes are below 256, and symbols of one class lead alike
  pub small : (a : Sym) → M.fit a ≡ true → M.class_of a < 256
  pub alike : (d : Direction) (S : States) (a b : Sym) → M.fit a ≡ true → M.fit b ≡ true → M.class_of a ≡ M.class_of b → leads M d S a ≡ leads M d S b
