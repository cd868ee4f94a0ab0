-- The byte notation in words: which bytes an atom at the front of a text passes, what text is left behind it, and which
-- texts are refused. Nothing here reads; each statement says what stands in the text.
use Rattle.std.specs.Prelude.{◌≡◌, ℕ, ◌+◌, ◌<◌, ◌≤◌, Bool, true, false, cond, not, ◌&&◌, ◌||◌, List, [], ◌∷◌, ◌++◌, length, codes, ◌==◌, ◌≢◌, nat_eq, slice_index_or}
use Rattle.refusal.specs.declared.Cause.{Cause}
use Rattle.refusal.specs.declared.Cause.TheVariants.{NoItem, BadEscape, UnclosedBracket, ReversedRange}
use Rattle.symbols.specs.ByteSets.{between}
use Rattle.byte_notation.specs.declared.classes.ByteRange.{ByteRange}
use Rattle.byte_notation.specs.declared.brackets.State.{State}
use Rattle.byte_notation.specs.declared.brackets.State.TheVariants.{NoMember, Members, Closed}
use Rattle.byte_notation.specs.Classes.{names, ranges, span, spelled}

abbrev pub one_of : ℕ → List ℕ → Bool
one_of b [] = false
one_of b (c ∷ cs) = b == c || one_of b cs

-- no class stands at the front of the text
abbrev pub NoClass : List ℕ → Type 0
NoClass text = (i : ℕ) (behind : List ℕ) → i < 8 → text ≢ spelled (slice_index_or names i []) ++ behind

-- no - and then a byte other than ]
abbrev pub NoRange : List ℕ → Type 0
NoRange text = (high : ℕ) (behind : List ℕ) → text ≡ 45 ∷ high ∷ behind → high ≡ 93

-- A member at the front of a text, what stands behind it, and the bytes that it names. Where a class can be read, it is; where
-- a range can be, it is; otherwise a byte is a member alone.
pub data Member : List ℕ → List ℕ → List ByteRange → Type 0 where
  class : (i : ℕ) {behind : List ℕ} → i < 8 → Member (spelled (slice_index_or names i []) ++ behind) behind (slice_index_or ranges i [])
  range : (low high : ℕ) {behind : List ℕ} → (high ≢ 93) → low ≤ high → Member (low ∷ 45 ∷ high ∷ behind) behind (span low high ∷ [])
  byte : (b : ℕ) {behind : List ℕ} → NoClass (b ∷ behind) → NoRange behind → Member (b ∷ behind) behind (span b b ∷ [])

-- a member may begin with any byte where none is read yet, and then with any but ]
abbrev pub MayBegin : State → List ℕ → Type 0
MayBegin NoMember text = Unit {0}
MayBegin Members text = (behind : List ℕ) → text ≢ 93 ∷ behind
MayBegin Closed text = ⊥

-- Members side by side: from one state and text to another, with all bytes that they name.
pub data Run : State → List ℕ → State → List ℕ → List ByteRange → Type 0 where
  none : {s : State} {text : List ℕ} → Run s text s text []
  more : {s t : State} {text mid behind : List ℕ} {these those : List ByteRange} → MayBegin s text → Member text mid these → Run Members mid t behind those → Run s text t behind (these ++ those)

-- A bracket opens, with ^ or without; its members follow.
pub data Opened : Bool → List ℕ → List ℕ → Type 0 where
  straight : {inner : List ℕ} → ((rest : List ℕ) → inner ≢ 94 ∷ rest) → Opened false (91 ∷ inner) inner
  caret : {inner : List ℕ} → Opened true (91 ∷ 94 ∷ inner) inner

-- one of the ranges has the byte
abbrev pub named : List ByteRange → ℕ → Bool
named [] x = false
named (r ∷ rs) x = between r.low r.high x || named rs x

-- the bytes that are named; after ^ those that are not, without 10
abbrev pub passing : Bool → List ByteRange → ℕ → Bool
passing inverted rs x = cond inverted (not (named rs x) && not (x == 10)) (named rs x)

-- a backslash before the first gives the second
pub data Escape : ℕ → ℕ → Type 0 where
  line_feed : Escape 110 10
  tab : Escape 116 9
  carriage_return : Escape 114 13
  itself : (b : ℕ) → one_of b (codes "()|*+?[]{}.\\^$") ≡ true → Escape b b

-- An atom at the front of a text, what stands behind it, and the bytes that pass.
pub data Atom : List ℕ → List ℕ → (ℕ → Bool) → Type 0 where
  dot : {behind : List ℕ} → Atom (46 ∷ behind) behind (λ x. not (x == 10))
  plain : (b : ℕ) {behind : List ℕ} → one_of b (codes "()|*+?.\\[{^$") ≡ false → Atom (b ∷ behind) behind (λ x. nat_eq x b)
  escaped : (c b : ℕ) {behind : List ℕ} → Escape c b → Atom (92 ∷ c ∷ behind) behind (λ x. nat_eq x b)
  bracket : (inverted : Bool) {text inner behind : List ℕ} {rs : List ByteRange} → Opened inverted text inner → Run NoMember inner Members (93 ∷ behind) rs → Atom text behind (passing inverted rs)

-- A text whose front is refused, with the cause and the place; the text begins at the first place.
pub data Refused (place : ℕ) : List ℕ → Cause → ℕ → Type 0 where
  nothing_begins : (b : ℕ) {rest : List ℕ} → one_of b (codes "{^$") ≡ true → Refused place (b ∷ rest) NoItem place
  escape_last : Refused place (92 ∷ []) BadEscape place
  escape_unknown : (c : ℕ) {rest : List ℕ} → ((b : ℕ) → Escape c b → ⊥) → Refused place (92 ∷ c ∷ rest) BadEscape place
  unclosed : {inverted : Bool} {text inner : List ℕ} {s : State} {rs : List ByteRange} → Opened inverted text inner → Run NoMember inner s [] rs → Refused place text UnclosedBracket place
  reversed : {inverted : Bool} {text inner : List ℕ} {s : State} {rs : List ByteRange} (low high : ℕ) {rest : List ℕ} (at : ℕ)
      → Opened inverted text inner → Run NoMember inner s (low ∷ 45 ∷ high ∷ rest) rs → MayBegin s (low ∷ 45 ∷ high ∷ rest) → (high ≢ 93) → high < low
      → at + length (low ∷ 45 ∷ high ∷ rest) ≡ place + length text → Refused place text ReversedRange at
