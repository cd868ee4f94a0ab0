-- What a bracket reads as: its members one after another, and at its end the bytes that pass.
use Rattle.std.specs.Prelude.{ℕ, zero, suc, ◌+◌, ◌-◌, Bool, false, cond, List, [], ◌∷◌, drop, Some, None, Ok, Err, Option, Result, ◌==◌, nat_lt, slice_index}
use Rattle.refusal.specs.declared.Cause.TheVariants.{UnclosedBracket, ReversedRange}
use Rattle.refusal.specs.declared.Refusal.{Refusal}
use Rattle.items.specs.declared.Lexeme.{Lexeme}
use Rattle.items.specs.Lexemes.{atom}
use Rattle.symbols.specs.declared.ByteTest.{ByteTest}
use Rattle.symbols.specs.ByteSets.{no_byte, with_byte, with_range, others}
use Rattle.byte_notation.specs.declared.classes.ByteRange.{ByteRange}
use Rattle.byte_notation.specs.declared.brackets.State.{State}
use Rattle.byte_notation.specs.declared.brackets.State.TheVariants.{NoMember, Members, Closed}
use Rattle.byte_notation.specs.declared.brackets.Bracket.{Bracket}
use Rattle.byte_notation.specs.Classes.{ranges_of, span, class_at, class_width}

-- a member as it is read: a class by its number, a range, or one byte
pub data Member : Type 0 where
  Class : ℕ → Member
  Range : ByteRange → Member
  Byte : ℕ → Member

-- the state after byte b, which begins a member or, where one was read before, closes the bracket by ]
abbrev pub after : State → ℕ → State
after NoMember b = Members
after Members b = cond (b == 93) Closed Members
after Closed b = Closed

-- the end of a range, by the bytes behind its first one: a - and then a byte other than ]
abbrev pub range_end : List ℕ → Option ℕ
range_end [] = None
range_end (m ∷ []) = None
range_end (m ∷ h ∷ rest) = cond (m == 45) (cond (h == 93) None (Some h)) None

-- byte b at place p alone, or a range from it on
abbrev pub ranged : ℕ → ℕ → Option ℕ → Result Member Refusal
ranged p b None = Ok (Byte b)
ranged p b (Some h) = cond (nat_lt h b) (Err (record { cause = ReversedRange; place = p })) (Ok (Range (span b h)))

-- the class where there is one, and otherwise the other
abbrev pub class_else : Option ℕ → Result Member Refusal → Result Member Refusal
class_else (Some c) other = Ok (Class c)
class_else None other = other

-- the member that begins with byte b at place p, the rest behind it
abbrev pub member_at : ℕ → ℕ → List ℕ → Result Member Refusal
member_at p b rest = class_else (class_at (b ∷ rest)) (ranged p b (range_end rest))

-- the member that begins with the q-th byte of a text, which begins at place p
abbrev pub member_in : ℕ → List ℕ → ℕ → Result Member Refusal
member_in p text q = member_at (p + q) (slice_index text q) (drop (q + 1) text)

-- how many bytes a member takes
abbrev pub width : Member → ℕ
width (Class c) = class_width c
width (Range r) = 3
width (Byte b) = 1

-- the place behind what was read at p
abbrev pub behind : Result Member Refusal → ℕ → ℕ
behind (Ok m) p = p + width m
behind (Err e) p = p

abbrev pub with_ranges : ByteTest → List ByteRange → ByteTest
with_ranges t [] = t
with_ranges t (r ∷ rs) = with_ranges (with_range t r.low r.high) rs

abbrev pub with_member : ByteTest → Member → ByteTest
with_member t (Class c) = with_ranges t (ranges_of c)
with_member t (Range r) = with_range t r.low r.high
with_member t (Byte b) = with_byte t b

-- what is told of a member that was asked for
abbrev pub taken : Result Member Refusal → Result (Unit {0}) Refusal
taken (Ok m) = Ok tt
taken (Err e) = Err e

abbrev pub with_read : ByteTest → Result Member Refusal → ByteTest
with_read t (Ok m) = with_member t m
with_read t (Err e) = t

-- a bracket that is read up to place p, by the state there: closed, or with a member more
abbrev pub proceed : State → Bracket → Result Member Refusal → (Member → Result Bracket Refusal) → Result Bracket Refusal
proceed Closed done m more = Ok done
proceed NoMember done (Ok m) more = more m
proceed NoMember done (Err e) more = Err e
proceed Members done (Ok m) more = more m
proceed Members done (Err e) more = Err e

-- the members from place p on, behind k more bytes of what was read before; t has the bytes named so far
abbrev pub members : ℕ → State → ByteTest → ℕ → ℕ → List ℕ → Result Bracket Refusal
members opening state t p k [] = Err (record { cause = UnclosedBracket; place = opening })
members opening state t p (suc k) (b ∷ bs) = members opening state t (p + 1) k bs
members opening state t p zero (b ∷ bs) =
    proceed (after state b) (record { test = t; width = p + 1 - opening }) (member_at p b bs) (λ m. members opening Members (with_member t m) (p + 1) (width m - 1) bs)

-- a ^ at the front
abbrev pub caret : List ℕ → Bool
caret [] = false
caret (b ∷ bs) = b == 94

-- after ^ the bytes that no member names, and never 10
abbrev pub tested : Bool → ByteTest → ByteTest
tested inverted t = cond inverted (others (with_byte t 10)) t

abbrev pub bracketed : Bool → Result Bracket Refusal → Result (Lexeme ByteTest) Refusal
bracketed inverted (Ok b) = Ok (atom (tested inverted b.test) b.width)
bracketed inverted (Err e) = Err e

-- the bracket that opens at a place, with the bytes behind it
abbrev pub bracket : ℕ → List ℕ → Result (Lexeme ByteTest) Refusal
bracket opening bs = bracketed (caret bs) (members opening NoMember no_byte (opening + 1) (cond (caret bs) 1 0) bs)
