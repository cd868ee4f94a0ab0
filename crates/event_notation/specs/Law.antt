-- What the event notation reads is what stands in the text, and all of it.
use Rattle.std.specs.Prelude.{◌≡◌, ℕ, ◌≤◌, List, ◌∷◌, Ok, Err, Result}
use Rattle.refusal.specs.declared.Refusal.{Refusal}
use Rattle.items.specs.declared.Lexeme.{Lexeme}
use Rattle.items.specs.Lexemes.{sign_byte}
use Rattle.items.specs.declared.Token.{Token}
use Rattle.items.specs.declared.Token.TheVariants.{Space, Sign, Atom}
use Rattle.symbols.specs.declared.Event.{Event}
use Rattle.symbols.specs.declared.EventTest.{EventTest}
use Rattle.symbols.specs.Tests.{passes_code, code_of}
use Rattle.event_notation.specs.Atoms.{Meaning, picks, test_of, AtomAt}
use Rattle.event_notation.specs.Refusals.{Refused}
use Rattle.event_notation.specs.Reading.{lexed}

-- the test passes exactly the events that an atom means
abbrev pub Passes : EventTest → Meaning → Type 0
Passes t m = (e : Event) → e.kind ≤ 255 → e.value ≤ 65535 → passes_code t (code_of e) ≡ picks m e

-- a space or a sign of one byte, or an atom with its test
abbrev pub Stands : List ℕ → Token EventTest → ℕ → Type 0
Stands text Space width = (behind : List ℕ) × (text ≡ 32 ∷ behind) × (width ≡ 1)
Stands text (Sign s) width = (behind : List ℕ) × (text ≡ sign_byte s ∷ behind) × (width ≡ 1)
Stands text (Atom t) width = (m : Meaning) × AtomAt text m width × (t ≡ test_of m) × Passes t m

-- the result is what stands at the front of the text, which begins at the place
abbrev pub Reads : ℕ → List ℕ → Result (Lexeme EventTest) Refusal → Type 0
Reads place text (Ok x) = Stands text x.token x.width
Reads place text (Err e) = Refused place text e.cause e.place

-- the result is what stands at the front of the text, and nothing else stands there
pub record Law (place : ℕ) (text : List ℕ) (r : Result (Lexeme EventTest) Refusal) : Type 0 where
  pub reads : Reads place text r
  pub alone : (s : Result (Lexeme EventTest) Refusal) → Reads place text s → s ≡ r
  pub passing : (m : Meaning) (width : ℕ) → AtomAt text m width → Passes (test_of m) m

-- Every text is read as what stands in it, and whatever stands in a text is read.
abbrev pub Lawful : Type 0
Lawful = (place b : ℕ) (rest : List ℕ) → Law place (b ∷ rest) (lexed place (b ∷ rest))

-- the answer is an atom with the test t that takes w bytes
abbrev pub IsAtom : Result (Lexeme EventTest) Refusal → EventTest → ℕ → Type 0
IsAtom r t w = r ≡ Ok (record { token = Atom t; width = w })

-- what is answered of the bytes bs
pub record AtomLaw (bs : List ℕ) (r : Result (Lexeme EventTest) Refusal) : Type 0 where
  pub only : (t : EventTest) (w : ℕ) → IsAtom r t w → (m : Meaning) × AtomAt bs m w × (t ≡ test_of m)
  pub each : (m : Meaning) (w : ℕ) → AtomAt bs m w → IsAtom r (test_of m) w
  pub passing : (m : Meaning) (w : ℕ) → AtomAt bs m w → (e : Event) → e.kind ≤ 255 → e.value ≤ 65535 → passes_code (test_of m) (code_of e) ≡ picks m e
