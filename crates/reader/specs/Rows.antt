-- A text as a row of lexemes: each stands where the one before ends.
use Rattle.std.specs.Prelude.{◌≡◌, ℕ, zero, suc, ◌+◌, ◌<◌, ◌≤◌, List, [], ◌∷◌, length, drop, Some, None, Ok, Option, Result}
use Rattle.refusal.specs.declared.Refusal.{Refusal}
use Rattle.items.specs.declared.Item.{Item}
use Rattle.items.specs.declared.Placed.{Placed}
use Rattle.items.specs.declared.Token.{Token}
use Rattle.items.specs.declared.Token.TheVariants.{Space, Sign, Atom}
use Rattle.items.specs.declared.Lexeme.{Lexeme}
use Rattle.grammar.specs.Grammar.{at, sign}

-- what a notation reads at a place, from the bytes that stand there and behind
abbrev pub Lexer : Type 0 → Type 0
Lexer T = ℕ → List ℕ → Result (Lexeme T) Refusal

-- a token and where it begins
pub record Found (T : Type 0) : Type 0 where
  pub token : Token T
  pub place : ℕ

abbrev pub found : {T : Type 0} → Token T → ℕ → Found T
found t p = record { token = t; place = p }

-- at place p, where the bytes bs stand, a lexeme of w bytes begins: it takes at least one and lies within the text
pub record Stands {T : Type 0} (lexed : Lexer T) (p : ℕ) (bs : List ℕ) (f : Found T) (w : ℕ) : Type 0 where
  pub is : lexed p bs ≡ Ok (record { token = f.token; width = w })
  pub here : f.place ≡ p
  pub wide : 0 < w
  pub within : w ≤ length bs

-- the lexemes lead from place p, where the bytes bs stand, to place q, where the bytes rest stand
abbrev pub Row : {T : Type 0} → Lexer T → ℕ → List ℕ → List (Found T) → ℕ → List ℕ → Type 0
Row lexed p bs [] q rest = (p ≡ q) × (bs ≡ rest)
Row lexed p bs (f ∷ fs) q rest = (w : ℕ) × Stands lexed p bs f w × Row lexed (p + w) (drop w bs) fs q rest

-- the items of a row; spaces are skipped
abbrev pub with_item : {T : Type 0} → Token T → ℕ → List Placed → List Placed
with_item Space p xs = xs
with_item (Sign s) p xs = sign s p ∷ xs
with_item (Atom t) p xs = at Item.Atom p ∷ xs

abbrev pub items : {T : Type 0} → List (Found T) → List Placed
items [] = []
items (f ∷ fs) = with_item f.token f.place (items fs)

-- the tests of its atoms
abbrev pub with_test : {T : Type 0} → Token T → List T → List T
with_test Space ts = ts
with_test (Sign s) ts = ts
with_test (Atom t) ts = t ∷ ts

abbrev pub tests : {T : Type 0} → List (Found T) → List T
tests [] = []
tests (f ∷ fs) = with_test f.token (tests fs)

-- the place of the first atom past so many
abbrev pub past : ℕ → ℕ → (ℕ → Option ℕ) → Option ℕ
past zero p behind = Some p
past (suc n) p behind = behind n

abbrev pub by_item : Item → ℕ → ℕ → (ℕ → Option ℕ) → Option ℕ
by_item Item.Atom n p behind = past n p behind
by_item (Item.Sign s) n p behind = behind n

abbrev pub surplus : ℕ → List Placed → Option ℕ
surplus n [] = None
surplus n (x ∷ xs) = by_item x.item n x.place (λ m. surplus m xs)
