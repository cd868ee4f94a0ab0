-- Refusals in the grammar's words: the first item with which no pattern begins, or the end of the text.
use Rattle.std.specs.Prelude.{ℕ, zero, suc, List, [], ◌∷◌, ◌++◌, ◌≢◌}
use Rattle.items.specs.declared.Item.{Item}
use Rattle.items.specs.declared.Sign.{Sign}
use Rattle.items.specs.declared.Placed.{Placed}
use Rattle.pattern.specs.declared.Code.{Code}
use Rattle.refusal.specs.declared.Cause.{Cause}
use Rattle.refusal.specs.declared.Cause.TheVariants.{TooDeep, MissingOperand, UnmatchedClosing, UnclosedGroup}
use Rattle.grammar.specs.Grammar.{sign, Pattern}

-- a pattern that nests at most 32 deep
abbrev pub IsPattern : List Placed → Type 0
IsPattern xs = (cs : List Code) × Pattern 32 xs cs

-- such a pattern begins so
abbrev pub Begins : List Placed → Type 0
Begins xs = (ys : List Placed) × IsPattern (xs ++ ys)

-- an operand is due: nothing, a bar or an opening stands before
pub data Due : List Placed → Type 0 where
  front : Due []
  bar : (u : List Placed) (p : ℕ) → Due (u ++ sign Sign.Bar p ∷ [])
  opening : (u : List Placed) (p : ℕ) → Due (u ++ sign Sign.Open p ∷ [])

-- closing parentheses, so many
abbrev pub closings : ℕ → List Placed
closings zero = []
closings (suc m) = sign Sign.Close 0 ∷ closings m

-- why the item cannot follow the items u
pub data Blocked : Cause → List Placed → Item → Type 0 where
  depth : {u : List Placed} → Blocked TooDeep u (Item.Sign Sign.Open)
  operand : {u : List Placed} {i : Item} → Due u → (i ≢ Item.Sign Sign.Open) → Blocked MissingOperand u i
  closing : {u : List Placed} → IsPattern u → Blocked UnmatchedClosing u (Item.Sign Sign.Close)

-- why the text cannot end behind the items u
pub data Unfinished : Cause → List Placed → Type 0 where
  operand : {u : List Placed} → Due u → Unfinished MissingOperand u
  group : {u : List Placed} (m : ℕ) → IsPattern (u ++ closings (suc m)) → Unfinished UnclosedGroup u

-- the cause and the place of what is first met in a text of that length
pub data FirstMet (len : ℕ) : List Placed → Cause → ℕ → Type 0 where
  inside : {k : Cause} (u : List Placed) (x : Placed) (v : List Placed) → Begins u → (Begins (u ++ x ∷ []) → ⊥) → Blocked k u x.item → FirstMet len (u ++ x ∷ v) k x.place
  at_end : {k : Cause} (xs : List Placed) → Begins xs → (IsPattern xs → ⊥) → Unfinished k xs → FirstMet len xs k len
