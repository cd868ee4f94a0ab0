-- Signs and atoms as lexemes. A lexeme takes at least one byte and lies within its text.
use Rattle.std.specs.Prelude.{ℕ, ◌+◌, ◌<◌, ◌≤◌, Ok, Err, Result}
use Rattle.refusal.specs.declared.Refusal.{Refusal}
use Rattle.items.specs.declared.Sign.{Sign}
use Rattle.items.specs.declared.Sign.TheVariants.{Open, Close, Bar, Star, Plus, Query}
use Rattle.items.specs.declared.Token.TheVariants as token
use Rattle.items.specs.declared.Lexeme.{Lexeme}

-- how each operator is written
abbrev pub sign_byte : Sign → ℕ
sign_byte Open = 40
sign_byte Close = 41
sign_byte Bar = 124
sign_byte Star = 42
sign_byte Plus = 43
sign_byte Query = 63

abbrev pub signed : {A : Type 0} → Sign → Lexeme A
signed s = record { token = token.Sign s; width = 1 }

abbrev pub atom : {A : Type 0} → A → ℕ → Lexeme A
atom t w = record { token = token.Atom t; width = w }

abbrev pub Within : {A : Type 0} → ℕ → ℕ → Result (Lexeme A) Refusal → Type 0
Within place len (Ok x) = (0 < x.width) × (place + x.width ≤ len)
Within place len (Err e) = Unit {0}
