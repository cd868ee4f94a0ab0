-- A pattern as codes in postfix order, and the tree that they stand for.
use Rattle.std.specs.Prelude.{◌≡◌, ℕ, suc, ◌+◌, List, [], ◌∷◌, ◌++◌, Some, None, Option}
use Rattle.pattern.specs.declared.Code.{Code}
use Rattle.pattern.specs.declared.Code.TheVariants.{Atom, Join, Choice, Star, Plus, Maybe}
use Rattle.pattern.specs.Tree.{Tree}
use Rattle.pattern.specs.Tree.Tree.{atom, join, choice, star, plus, maybe}

-- the codes of a tree, in postfix order
abbrev pub codes_of : Tree → List Code
codes_of (atom n) = Atom ∷ []
codes_of (join l r) = codes_of l ++ (codes_of r ++ (Join ∷ []))
codes_of (choice l r) = codes_of l ++ (codes_of r ++ (Choice ∷ []))
codes_of (star t) = codes_of t ++ (Star ∷ [])
codes_of (plus t) = codes_of t ++ (Plus ∷ [])
codes_of (maybe t) = codes_of t ++ (Maybe ∷ [])

-- how many atoms
abbrev pub count : Tree → ℕ
count (atom n) = 1
count (join l r) = count l + count r
count (choice l r) = count l + count r
count (star t) = count t
count (plus t) = count t
count (maybe t) = count t

-- the atoms have the numbers from n on, in their order
abbrev pub Numbered : ℕ → Tree → Type 0
Numbered n (atom k) = k ≡ n
Numbered n (join l r) = Numbered n l × Numbered (n + count l) r
Numbered n (choice l r) = Numbered n l × Numbered (n + count l) r
Numbered n (star t) = Numbered n t
Numbered n (plus t) = Numbered n t
Numbered n (maybe t) = Numbered n t

-- the relation: t is the tree of the codes cs
abbrev pub TreeOf : List Code → Tree → Type 0
TreeOf cs t = (codes_of t ≡ cs) × Numbered 1 t

-- the stack machine
abbrev pub build : List Code → ℕ → List Tree → Option Tree
build [] n [] = None
build [] n (t ∷ []) = Some t
build [] n (t ∷ u ∷ st) = None
build (Atom ∷ cs) n st = build cs (suc n) (atom n ∷ st)
build (Join ∷ cs) n [] = None
build (Join ∷ cs) n (r ∷ []) = None
build (Join ∷ cs) n (r ∷ l ∷ st) = build cs n (join l r ∷ st)
build (Choice ∷ cs) n [] = None
build (Choice ∷ cs) n (r ∷ []) = None
build (Choice ∷ cs) n (r ∷ l ∷ st) = build cs n (choice l r ∷ st)
build (Star ∷ cs) n [] = None
build (Star ∷ cs) n (t ∷ st) = build cs n (star t ∷ st)
build (Plus ∷ cs) n [] = None
build (Plus ∷ cs) n (t ∷ st) = build cs n (plus t ∷ st)
build (Maybe ∷ cs) n [] = None
build (Maybe ∷ cs) n (t ∷ st) = build cs n (maybe t ∷ st)

abbrev pub tree : List Code → Option Tree
tree cs = build cs 1 []
