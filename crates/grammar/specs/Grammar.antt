-- The grammar of patterns, as a relation between placed items and codes in postfix order.
-- The number is how deep parentheses may nest. Chains and choices group from the left.
use Rattle.std.specs.Prelude.{ℕ, suc, ◌+◌, List, [], ◌∷◌, ◌++◌}
use Rattle.items.specs.declared.Item.{Item}
use Rattle.items.specs.declared.Sign.{Sign}
use Rattle.items.specs.declared.Placed.{Placed}
use Rattle.pattern.specs.declared.Code.{Code}

-- the item at the place
abbrev pub at : Item → ℕ → Placed
at i p = record { item = i; place = p }

-- the sign at the place
abbrev pub sign : Sign → ℕ → Placed
sign s p = at (Item.Sign s) p

mutual
  -- one or more chains with | between
  pub data Pattern : ℕ → List Placed → List Code → Type 0 where
    chain : {n : ℕ} {w : List Placed} {c : List Code} → Chain n w c → Pattern n w c
    choice : {n : ℕ} {u v : List Placed} {a b : List Code} → Pattern n u a → (p : ℕ) → Chain n v b → Pattern n (u ++ sign Sign.Bar p ∷ v) (a ++ b ++ Code.Choice ∷ [])

  -- one or more repeats side by side
  pub data Chain : ℕ → List Placed → List Code → Type 0 where
    repeat : {n : ℕ} {w : List Placed} {c : List Code} → Repeat n w c → Chain n w c
    join : {n : ℕ} {u v : List Placed} {a b : List Code} → Chain n u a → Repeat n v b → Chain n (u ++ v) (a ++ b ++ Code.Join ∷ [])

  -- a unit, and behind it any number of signs: star, plus, query
  pub data Repeat : ℕ → List Placed → List Code → Type 0 where
    unit : {n : ℕ} {w : List Placed} {c : List Code} → Single n w c → Repeat n w c
    star : {n : ℕ} {w : List Placed} {c : List Code} → Repeat n w c → (p : ℕ) → Repeat n (w ++ sign Sign.Star p ∷ []) (c ++ Code.Star ∷ [])
    plus : {n : ℕ} {w : List Placed} {c : List Code} → Repeat n w c → (p : ℕ) → Repeat n (w ++ sign Sign.Plus p ∷ []) (c ++ Code.Plus ∷ [])
    maybe : {n : ℕ} {w : List Placed} {c : List Code} → Repeat n w c → (p : ℕ) → Repeat n (w ++ sign Sign.Query p ∷ []) (c ++ Code.Maybe ∷ [])

  -- a single unit: an atom, or a pattern between ( and )
  pub data Single : ℕ → List Placed → List Code → Type 0 where
    atom : {n : ℕ} (p : ℕ) → Single n (at Item.Atom p ∷ []) (Code.Atom ∷ [])
    group : {n : ℕ} {w : List Placed} {c : List Code} (p q : ℕ) → Pattern n w c → Single (suc n) (sign Sign.Open p ∷ w ++ sign Sign.Close q ∷ []) c

-- how many of the items are atoms
abbrev pub is_atom : Item → ℕ
is_atom Item.Atom = 1
is_atom (Item.Sign s) = 0

abbrev pub atoms : List Placed → ℕ
atoms [] = 0
atoms (x ∷ xs) = is_atom x.item + atoms xs
