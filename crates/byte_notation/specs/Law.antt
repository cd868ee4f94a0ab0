-- What the byte notation reads is what stands in the text, and all of it.
use Rattle.std.specs.Prelude.{◌≡◌, ℕ, ◌+◌, ◌<◌, Bool, List, ◌∷◌, length, Ok, Err, Result}
use Rattle.refusal.specs.declared.Cause.{Cause}
use Rattle.refusal.specs.declared.Refusal.{Refusal}
use Rattle.items.specs.declared.Lexeme.{Lexeme}
use Rattle.items.specs.declared.Sign.{Sign}
use Rattle.items.specs.declared.Token.{Token}
use Rattle.items.specs.declared.Token.TheVariants as token
use Rattle.symbols.specs.declared.ByteTest.{ByteTest}
use Rattle.symbols.specs.Tests.{passes_byte}
use Rattle.byte_notation.specs.Atoms.{Atom, Refused}
use Rattle.items.specs.Lexemes.{sign_byte, signed, atom}
use Rattle.byte_notation.specs.Lexing.{lexed, refused}

-- the test passes exactly these bytes
abbrev pub Passes : ByteTest → (ℕ → Bool) → Type 0
Passes t passes = (x : ℕ) → x < 256 → passes_byte t x ≡ passes x

-- a sign of one byte, or an atom of a text: its bytes, and which bytes pass
abbrev pub Stands : List ℕ → Token ByteTest → ℕ → Type 0
Stands text token.Space width = ⊥
Stands text (token.Sign s) width = (behind : List ℕ) × (text ≡ sign_byte s ∷ behind) × (width ≡ 1)
Stands text (token.Atom t) width = (behind : List ℕ) × (passes : ℕ → Bool) × Atom text behind passes × (width + length behind ≡ length text) × Passes t passes

-- the result is what stands at the front of the text, which begins at the place
abbrev pub Reads : ℕ → List ℕ → Result (Lexeme ByteTest) Refusal → Type 0
Reads place text (Ok x) = Stands text x.token x.width
Reads place text (Err e) = Refused place text e.cause e.place

-- Every text is read as what stands in it, and whatever stands in a text is read.
pub record Lawful : Type 0 where
  pub sound : (place b : ℕ) (rest : List ℕ) → Reads place (b ∷ rest) (lexed place (b ∷ rest))
  pub signs : (place : ℕ) (s : Sign) (behind : List ℕ) → lexed place (sign_byte s ∷ behind) ≡ Ok (signed s)
  pub atoms : (place : ℕ) {text behind : List ℕ} {passes : ℕ → Bool} → Atom text behind passes
      → (t : ByteTest) × (width : ℕ) × (lexed place text ≡ Ok (atom t width)) × (width + length behind ≡ length text) × Passes t passes
  pub refusals : (place : ℕ) {text : List ℕ} {cause : Cause} {at : ℕ} → Refused place text cause at → lexed place text ≡ refused cause at
