-- What the byte notation reads at a place: a sign, an atom with its test, or a refusal.
use Rattle.std.specs.Prelude.{ℕ, cond, List, [], ◌∷◌, Some, None, Ok, Err, codes, Option, Result, ◌==◌}
use Rattle.refusal.specs.declared.Cause.{Cause}
use Rattle.refusal.specs.declared.Cause.TheVariants.{NoItem, BadEscape}
use Rattle.refusal.specs.declared.Refusal.{Refusal}
use Rattle.items.specs.declared.Lexeme.{Lexeme}
use Rattle.items.specs.declared.Sign.TheVariants.{Open, Close, Bar, Star, Plus, Query}
use Rattle.items.specs.Lexemes.{signed, atom}
use Rattle.symbols.specs.declared.ByteTest.{ByteTest}
use Rattle.symbols.specs.ByteSets.{no_byte, with_byte, others}
use Rattle.byte_notation.specs.Atoms.{one_of}
use Rattle.byte_notation.specs.Brackets.{bracket}

abbrev pub refused : Cause → ℕ → Result (Lexeme ByteTest) Refusal
refused c p = Err (record { cause = c; place = p })

-- just one byte
abbrev pub only_byte : ℕ → ByteTest
only_byte b = with_byte no_byte b

-- every byte but 10
abbrev pub any_byte : ByteTest
any_byte = others (only_byte 10)

-- the byte that a backslash before c gives
abbrev pub escape_of : ℕ → Option ℕ
escape_of c =
    cond (c == 110) (Some 10) (cond (c == 116) (Some 9) (cond (c == 114) (Some 13) (cond (one_of c (codes "()|*+?[]{}.\\^$")) (Some c) None)))

abbrev pub escaped : ℕ → Option ℕ → Result (Lexeme ByteTest) Refusal
escaped p (Some b) = Ok (atom (only_byte b) 2)
escaped p None = refused BadEscape p

-- the atom that a backslash at place p begins, by the bytes behind it
abbrev pub escape : ℕ → List ℕ → Result (Lexeme ByteTest) Refusal
escape p [] = refused BadEscape p
escape p (c ∷ cs) = escaped p (escape_of c)

-- what byte b at place p begins, the rest behind it
abbrev pub item : ℕ → ℕ → List ℕ → Result (Lexeme ByteTest) Refusal
item p b rest =
    cond (b == 40) (Ok (signed Open))
    (cond (b == 41) (Ok (signed Close))
    (cond (b == 124) (Ok (signed Bar))
    (cond (b == 42) (Ok (signed Star))
    (cond (b == 43) (Ok (signed Plus))
    (cond (b == 63) (Ok (signed Query))
    (cond (b == 46) (Ok (atom any_byte 1))
    (cond (b == 92) (escape p rest)
    (cond (b == 91) (bracket p rest)
    (cond (one_of b (codes "{^$")) (refused NoItem p)
    (Ok (atom (only_byte b) 1)))))))))))

-- what is read at place p, by the bytes from there on; where none is left, nothing begins
abbrev pub lexed : ℕ → List ℕ → Result (Lexeme ByteTest) Refusal
lexed p [] = refused NoItem p
lexed p (b ∷ rest) = item p b rest
