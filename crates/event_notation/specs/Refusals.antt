-- Which texts the event notation refuses at their front, why and where. Nothing here reads; each statement says what
-- stands in the text.
use Rattle.std.specs.Prelude.{◌≡◌, ℕ, ◌+◌, ◌<◌, true, false, List, ◌∷◌, ◌++◌, length, ◌≢◌}
use Rattle.refusal.specs.declared.Cause.{Cause}
use Rattle.refusal.specs.declared.Cause.TheVariants.{NoItem, ReversedRange, BadNumber}
use Rattle.items.specs.declared.Sign.{Sign}
use Rattle.items.specs.Lexemes.{sign_byte}
use Rattle.event_notation.specs.Numbers.{digit}
use Rattle.event_notation.specs.Atoms.{Digits, decimal, Numeral, Ends}

-- a byte that is no space, no sign, neither . nor !, and no digit
pub record BeginsNothing (b : ℕ) : Type 0 where
  pub no_space : b ≡ 32 → ⊥
  pub no_sign : (s : Sign) → b ≢ sign_byte s
  pub no_dot : b ≡ 46 → ⊥
  pub no_bang : b ≡ 33 → ⊥
  pub no_digit : digit b ≡ false

-- no number up to `most` in front: no digit, more than five digits, or a whole run of digits whose value is above it
pub data NoNumber (most : ℕ) (bs : List ℕ) : Type 0 where
  missing : Ends digit bs → NoNumber most bs
  long : (run behind : List ℕ) → bs ≡ run ++ behind → Digits run → 5 < length run → NoNumber most bs
  large : (run behind : List ℕ) → bs ≡ run ++ behind → Digits run → Ends digit behind → most < decimal run → NoNumber most bs

-- the numbers of an atom
pub data Part : Type 0 where
  the_kind : Part
  first_value : Part
  second_value : Part

abbrev pub most : Part → ℕ
most the_kind = 255
most first_value = 65535
most second_value = 65535

-- A number is due at a place, where some bytes stand: a kind where the text begins with a digit, or behind !; a value behind
-- a kind and a colon; a second value behind a value and -. The text begins at the first place.
pub data Due (place : ℕ) (text : List ℕ) : Part → ℕ → List ℕ → Type 0 where
  in_front : (b : ℕ) (rest : List ℕ) → text ≡ b ∷ rest → digit b ≡ true → Due place text the_kind place text
  behind_bang : (rest : List ℕ) → text ≡ 33 ∷ rest → Due place text the_kind (place + 1) rest
  behind_colon : (at : ℕ) (ds rest : List ℕ) (n : ℕ) → Due place text the_kind at (ds ++ 58 ∷ rest) → Numeral 255 ds n → Due place text first_value (at + length ds + 1) rest
  behind_dash : (at : ℕ) (ds rest : List ℕ) (n : ℕ) → Due place text first_value at (ds ++ 45 ∷ rest) → Numeral 65535 ds n → Due place text second_value (at + length ds + 1) rest

-- A text whose front is refused, with the cause and the place; the text begins at the first place.
pub data Refused (place : ℕ) (text : List ℕ) : Cause → ℕ → Type 0 where
  nothing_begins : (b : ℕ) (rest : List ℕ) → text ≡ b ∷ rest → BeginsNothing b → Refused place text NoItem place
  no_number : (part : Part) (at : ℕ) (bs : List ℕ) → Due place text part at bs → NoNumber (most part) bs → Refused place text BadNumber at
  reversed : (at : ℕ) (ds es behind : List ℕ) (low high : ℕ) → Due place text first_value at (ds ++ 45 ∷ (es ++ behind)) → Numeral 65535 ds low → Numeral 65535 es high → Ends digit behind → high < low
      → Refused place text ReversedRange at
