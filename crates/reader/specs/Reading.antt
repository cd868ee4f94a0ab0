-- What a text reads as in a notation: first its lexemes, then the count of its atoms, then the pattern.
use Rattle.std.specs.Prelude.{ℕ, zero, suc, ◌+◌, ◌-◌, cond, List, [], ◌∷◌, length, Some, None, Ok, Err, Option, Result, nat_lt}
use Rattle.refusal.specs.declared.Cause.{Cause}
use Rattle.refusal.specs.declared.Cause.TheVariants.{TextTooLong, TooManyAtoms}
use Rattle.refusal.specs.declared.Refusal.{Refusal}
use Rattle.pattern.specs.declared.Code.{Code}
use Rattle.items.specs.declared.Lexeme.{Lexeme}
use Rattle.grammar.specs.Parse.{Outcome, parse}
use Rattle.reader.specs.Rows.{Lexer, Found, found, items, tests, surplus}

abbrev pub refusal : Cause → ℕ → Refusal
refusal c p = record { cause = c; place = p }

abbrev pub with_found : {T : Type 0} → Found T → Result (List (Found T)) Refusal → Result (List (Found T)) Refusal
with_found f (Ok fs) = Ok (f ∷ fs)
with_found f (Err e) = Err e

-- a lexeme, and what stands behind its width
abbrev pub then_behind : {T : Type 0} → ℕ → Result (Lexeme T) Refusal → (ℕ → Result (List (Found T)) Refusal) → Result (List (Found T)) Refusal
then_behind p (Ok x) behind = with_found (found x.token p) (behind x.width)
then_behind p (Err e) behind = Err e

-- the lexemes from place p on, behind k more bytes of the one before
abbrev pub lex : {T : Type 0} → Lexer T → ℕ → ℕ → List ℕ → Result (List (Found T)) Refusal
lex lexed p k [] = Ok []
lex lexed p (suc k) (b ∷ bs) = lex lexed (p + 1) k bs
lex lexed p zero (b ∷ bs) = then_behind p (lexed p (b ∷ bs)) (λ w. lex lexed (p + 1) (w - 1) bs)

-- a draft's tests and codes, or why and where the text is refused
pub data Reading (T : Type 0) : Type 0 where
  accepted : List T → List Code → Reading T
  refused : Refusal → Reading T

abbrev pub by_structure : {T : Type 0} → List T → Outcome → Reading T
by_structure ts (Outcome.accepted cs) = accepted ts cs
by_structure ts (Outcome.refused c p) = refused (refusal c p)

abbrev pub by_count : {T : Type 0} → ℕ → List (Found T) → Option ℕ → Reading T
by_count len fs (Some p) = refused (refusal TooManyAtoms p)
by_count len fs None = by_structure (tests fs) (parse (items fs) len)

abbrev pub by_lexemes : {T : Type 0} → ℕ → Result (List (Found T)) Refusal → Reading T
by_lexemes len (Ok fs) = by_count len fs (surplus 63 (items fs))
by_lexemes len (Err e) = refused e

abbrev pub reading : {T : Type 0} → Lexer T → List ℕ → Reading T
reading lexed text = cond (nat_lt 512 (length text)) (refused (refusal TextTooLong 512)) (by_lexemes (length text) (lex lexed 0 0 text))

-- the reading that an answer tells of, with the tests and the codes that were filled in
abbrev pub outcome : {T : Type 0} → Result (Unit {0}) Refusal → List T → List Code → Reading T
outcome (Ok u) ts cs = accepted ts cs
outcome (Err e) ts cs = refused e

-- the answer to the caller, and what the draft then holds
abbrev pub answer : {T : Type 0} → Reading T → Result (Unit {0}) Refusal
answer (accepted ts cs) = Ok tt
answer (refused e) = Err e

abbrev pub tests_read : {T : Type 0} → Reading T → List T
tests_read (accepted ts cs) = ts
tests_read (refused e) = []

abbrev pub codes_read : {T : Type 0} → Reading T → List Code
codes_read (accepted ts cs) = cs
codes_read (refused e) = []
