-- What a plan means: the codes that it keeps, and the positions of their pattern.
use Rattle.std.specs.Prelude.{◌≡◌, ℕ, ◌≤◌, Bool, cond, ◌&&◌, List, [], length, take, Some, None, Option, nat_le}
use Rattle.pattern.specs.declared.Code.{Code}
use Rattle.pattern.specs.Tree.{Tree}
use Rattle.pattern.specs.Codes.{tree, TreeOf, count}
use Rattle.sets.specs.Positions.{holds, PositionSet}
use Rattle.theory.specs.Positions.{Positions, positions}
use Rattle.sealed.specs.declared.plan.Plan.{Plan}
use Rattle.sealed.specs.Assembling.{atom_codes}

abbrev pub codes_of : Plan → List Code
codes_of p = take p.used p.codes

-- the pattern's tree; codes that are of no tree, as those of an empty draft, have none
abbrev pub tree_of : Plan → Option Tree
tree_of p = tree (codes_of p)

abbrev pub positions_of : Plan → Positions
positions_of p = positions (tree_of p)

-- the codes are within the limits of a draft
abbrev pub fits : List Code → Bool
fits cs = nat_le (length cs) 1023 && nat_le (atom_codes cs) 63

-- codes past the limits count as none
abbrev pub sealable : List Code → List Code
sealable cs = cond (fits cs) cs []

-- a set of positions as what a symbol passes
abbrev pub is_member : ℕ → PositionSet → Bool
is_member q s = holds s q

-- what a class passes, with the test first
abbrev pub by_class : (ℕ → ℕ → Bool) → ℕ → ℕ → Bool
by_class accepts q c = accepts c q

-- a pattern of a draft's codes is sealed: a tree of at most 63 atoms is kept, and an empty draft has no words
pub record SealedOf (cs : List Code) (sealed : Option Tree) : Type 0 where
  pub kept : (t : Tree) → TreeOf cs t → count t ≤ 63 → sealed ≡ Some t
  pub empty : cs ≡ [] → sealed ≡ None
