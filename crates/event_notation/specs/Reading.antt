-- What stands at a place of a text in the event notation.
use Rattle.std.specs.Prelude.{ℕ, ◌+◌, Bool, true, false, cond, List, [], ◌∷◌, drop, Ok, Err, Result, ◌==◌}
use Rattle.refusal.specs.declared.Cause.TheVariants.{NoItem}
use Rattle.refusal.specs.declared.Refusal.{Refusal}
use Rattle.items.specs.declared.Sign.TheVariants.{Open, Close, Bar, Star, Plus, Query}
use Rattle.items.specs.declared.Token.TheVariants.{Space}
use Rattle.items.specs.declared.Lexeme.{Lexeme}
use Rattle.items.specs.Lexemes.{signed, atom}
use Rattle.symbols.specs.declared.EventTest.{EventTest}
use Rattle.event_notation.specs.declared.Start.{Start}
use Rattle.event_notation.specs.declared.Start.TheVariants.{Space as AtSpace, Sign as AtSign, Dot, Bang, Digit, Nothing}
use Rattle.event_notation.specs.declared.span.Span.{Span}
use Rattle.event_notation.specs.Numbers.{digit}
use Rattle.event_notation.specs.Spans.{after, codes}

-- what begins with the byte b
abbrev pub start_of : ℕ → Start
start_of b =
    cond (b == 32) AtSpace
    (cond (b == 40) (AtSign Open)
    (cond (b == 41) (AtSign Close)
    (cond (b == 124) (AtSign Bar)
    (cond (b == 42) (AtSign Star)
    (cond (b == 43) (AtSign Plus)
    (cond (b == 63) (AtSign Query)
    (cond (b == 46) Dot
    (cond (b == 33) Bang
    (cond (digit b) Digit Nothing)))))))))

-- the test of the sign ., which passes every event
abbrev pub every : EventTest
every = record { low = 0; high = 16777215; inverted = false }

-- the test of some codes; behind ! that of all others
abbrev pub tested : Bool → Span → EventTest
tested inverted s = record { low = s.low; high = s.high; inverted = inverted }

abbrev pub named : Bool → Span → Lexeme EventTest
named inverted s = atom (tested inverted s) (s.width + cond inverted 1 0)

-- what stands at p, by its beginning and all bytes from p on
abbrev pub begun : ℕ → List ℕ → Start → Result (Lexeme EventTest) Refusal
begun p bs AtSpace = Ok (record { token = Space; width = 1 })
begun p bs (AtSign s) = Ok (signed s)
begun p bs Dot = Ok (atom every 1)
begun p bs Bang = after (codes (p + 1) (drop 1 bs)) (λ s. Ok (named true s))
begun p bs Digit = after (codes p bs) (λ s. Ok (named false s))
begun p bs Nothing = Err (record { cause = NoItem; place = p })

-- what stands at p, by the bytes from there on; nobody asks at the text's end
abbrev pub lexed : ℕ → List ℕ → Result (Lexeme EventTest) Refusal
lexed p [] = begun p [] Nothing
lexed p (b ∷ bs) = begun p (b ∷ bs) (start_of b)
