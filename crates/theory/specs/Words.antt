-- The words of a pattern, over any symbols and any tests: `passes n a` says whether the symbol a passes the test n.
use Rattle.std.specs.Prelude.{◌≡◌, ℕ, Bool, T, ◌⊎◌, List, [], ◌∷◌, ◌++◌, Some, None, Option}
use Rattle.pattern.specs.Tree.{Tree}
use Rattle.pattern.specs.Tree.Tree.{atom, join, choice, star, plus, maybe}

-- any number of words of L in a row, none included
pub data Many {Sym : Type 0} (L : List Sym → Type 0) : List Sym → Type 0 where
  none : Many L []
  more : {u v : List Sym} → L u → Many L v → Many L (u ++ v)

-- a word of L, then one of M
abbrev pub Then : {Sym : Type 0} → (List Sym → Type 0) → (List Sym → Type 0) → List Sym → Type 0
Then {Sym} L M w = (u : List Sym) × (v : List Sym) × L u × M v × (w ≡ u ++ v)

-- the words of a tree
abbrev pub Word : {Sym : Type 0} → (ℕ → Sym → Bool) → Tree → List Sym → Type 0
Word {Sym} passes (atom n) w = (a : Sym) × T (passes n a) × (w ≡ a ∷ [])
Word passes (join l r) w = Then (Word passes l) (Word passes r) w
Word passes (choice l r) w = Word passes l w ⊎ Word passes r w
Word passes (star t) w = Many (Word passes t) w
Word passes (plus t) w = Then (Word passes t) (Many (Word passes t)) w
Word passes (maybe t) w = (w ≡ []) ⊎ Word passes t w

-- the words of a pattern: one without a tree, as of an empty draft, has none
abbrev pub Words : {Sym : Type 0} → (ℕ → Sym → Bool) → Option Tree → List Sym → Type 0
Words passes None w = ⊥
Words passes (Some t) w = Word passes t w

-- a word of L that is not empty stands at the front of w
abbrev pub Begins : {Sym : Type 0} → (List Sym → Type 0) → List Sym → Type 0
Begins {Sym} L w = (a : Sym) × (u : List Sym) × (v : List Sym) × L (a ∷ u) × (w ≡ a ∷ (u ++ v))
