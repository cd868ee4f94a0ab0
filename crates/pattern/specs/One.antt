-- Codes in postfix order stand for one tree at most, and the stack machine finds it.
use Rattle.std.specs.Prelude.{◌≡◌, ◌↔◌, List, [], Some, None}
use Rattle.pattern.specs.declared.Code.{Code}
use Rattle.pattern.specs.Tree.{Tree}
use Rattle.pattern.specs.Codes.{TreeOf, tree}

pub record OneTree : Type 0 where
  -- the stack machine answers t exactly when t is the tree of the codes
  pub built : (codes : List Code) (t : Tree) → (tree codes ≡ Some t) ↔ TreeOf codes t
  pub one : (codes : List Code) (t u : Tree) → TreeOf codes t → TreeOf codes u → t ≡ u
  -- no codes, no tree
  pub empty : (tree [] ≡ None) × ((t : Tree) → TreeOf [] t → ⊥)
