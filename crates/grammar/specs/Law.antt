-- The law of the pattern reader: what it accepts and what it refuses, in the grammar's words.
use Rattle.std.specs.Prelude.{◌≡◌, ℕ, List, Some, Ok, Err, Result}
use Rattle.items.specs.declared.Placed.{Placed}
use Rattle.pattern.specs.declared.Code.{Code}
use Rattle.pattern.specs.Tree.{Tree}
use Rattle.pattern.specs.Codes.{TreeOf, count, tree}
use Rattle.refusal.specs.declared.Cause.{Cause}
use Rattle.refusal.specs.declared.Refusal.{Refusal}
use Rattle.grammar.specs.Grammar.{Pattern, atoms}
use Rattle.grammar.specs.Refusals.{FirstMet}

-- the codes have one tree, which they build; its atoms have the numbers from 1 on, in their order, so many
pub record Shaped (cs : List Code) (n : ℕ) : Type 0 where
  pub shape : Tree
  pub shaped : TreeOf cs shape
  pub built : tree cs ≡ Some shape
  pub atoms : count shape ≡ n
  pub sole : (t : Tree) → TreeOf cs t → t ≡ shape

-- the items are a pattern that nests at most 32 deep, and these are its codes
pub record Accepted (xs : List Placed) (cs : List Code) : Type 0 where
  pub pattern : Pattern 32 xs cs
  -- however deep parentheses may nest, it has no other codes
  pub only : (n : ℕ) (ds : List Code) → Pattern n xs ds → ds ≡ cs
  -- an atom of the tree for each of the items
  pub treed : Shaped cs (atoms xs)

-- the items are no such pattern, and this alone is what is first met
pub record Refused (xs : List Placed) (len : ℕ) (cause : Cause) (place : ℕ) : Type 0 where
  pub none : (cs : List Code) → Pattern 32 xs cs → ⊥
  pub met : FirstMet len xs cause place
  pub only : (k : Cause) (p : ℕ) → FirstMet len xs k p → (k ≡ cause) × (p ≡ place)

abbrev pub Understood : List Placed → ℕ → List Code → Result (Unit {0}) Refusal → Type 0
Understood xs len cs (Ok u) = Accepted xs cs
Understood xs len cs (Err e) = Refused xs len e.cause e.place
