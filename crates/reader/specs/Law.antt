-- The law of reading: which texts a notation's reader accepts, with which tests and codes, and what it refuses for.
use Rattle.std.specs.Prelude.{◌≡◌, ℕ, ◌<◌, ◌≤◌, List, [], ◌∷◌, ◌++◌, length, Ok, Err, Result}
use Rattle.refusal.specs.declared.Cause.{Cause}
use Rattle.refusal.specs.declared.Cause.TheVariants.{TextTooLong, TooManyAtoms}
use Rattle.refusal.specs.declared.Refusal.{Refusal}
use Rattle.pattern.specs.declared.Code.{Code}
use Rattle.items.specs.declared.Token.TheVariants.{Atom}
use Rattle.grammar.specs.Grammar.{Pattern}
use Rattle.grammar.specs.Law.{Shaped}
use Rattle.grammar.specs.Refusals.{FirstMet}
use Rattle.reader.specs.Rows.{Lexer, Found, Row, items, tests}

-- the text is a row of lexemes from its first byte to its last
abbrev pub RowOf : {T : Type 0} → Lexer T → List ℕ → List (Found T) → Type 0
RowOf lexed text fs = (length text ≤ 512) × Row lexed 0 text fs (length text) []

-- the text has at most 512 bytes, is a row of lexemes, has at most 63 atoms, these are their tests in order,
-- and its items are a pattern that nests at most 32 deep and has these codes
pub record ReadsAs {T : Type 0} (lexed : Lexer T) (text : List ℕ) (ts : List T) (cs : List Code) : Type 0 where
  pub found : List (Found T)
  pub row : RowOf lexed text found
  pub tested : ts ≡ tests found
  pub few : length ts ≤ 63
  pub pattern : Pattern 32 (items found) cs

-- the cause and the place of what is first met, in checking order
pub data Met {T : Type 0} (lexed : Lexer T) (text : List ℕ) : Cause → ℕ → Type 0 where
  -- more than 512 bytes
  long : 512 < length text → Met lexed text TextTooLong 512
  -- behind some lexemes the notation reads none
  lexeme : (fs : List (Found T)) (p : ℕ) (rest : List ℕ) (e : Refusal) → length text ≤ 512 → Row lexed 0 text fs p rest → 0 < length rest → lexed p rest ≡ Err e
      → Met lexed text e.cause e.place
  -- an atom behind 63 others
  atom : (fs gs : List (Found T)) (f : Found T) (t : T) → RowOf lexed text (fs ++ f ∷ gs) → length (tests fs) ≡ 63 → f.token ≡ Atom t
      → Met lexed text TooManyAtoms f.place
  -- the items are no pattern
  structure : {k : Cause} {p : ℕ} (fs : List (Found T)) → RowOf lexed text fs → length (tests fs) ≤ 63 → FirstMet (length text) (items fs) k p
      → Met lexed text k p

-- the text reads so and in no other way, and the codes have one tree, with an atom for each test
pub record Accepted {T : Type 0} (lexed : Lexer T) (text : List ℕ) (ts : List T) (cs : List Code) : Type 0 where
  pub reads : ReadsAs lexed text ts cs
  pub only : (us : List T) (ds : List Code) → ReadsAs lexed text us ds → (us ≡ ts) × (ds ≡ cs)
  pub treed : Shaped cs (length ts)

-- the text reads in no way, and this alone is what is first met
pub record Refused {T : Type 0} (lexed : Lexer T) (text : List ℕ) (e : Refusal) : Type 0 where
  pub none : (us : List T) (ds : List Code) → ReadsAs lexed text us ds → ⊥
  pub met : Met lexed text e.cause e.place
  pub only : (k : Cause) (p : ℕ) → Met lexed text k p → (k ≡ e.cause) × (p ≡ e.place)

abbrev pub Lawful : {T : Type 0} → Lexer T → List ℕ → List T → List Code → Result (Unit {0}) Refusal → Type 0
Lawful lexed text ts cs (Ok u) = Accepted lexed text ts cs
Lawful lexed text ts cs (Err e) = Refused lexed text e
