-- Symbols as they are written in a script.
use Rattle.std.specs.Prelude.{ℕ, cond, List, Some, None, Option, nat_le}
use Rattle.symbols.specs.declared.Event.{Event}
use Rattle.script.specs.Words.{up_to, past}
use Rattle.script.specs.Numbers.{number_of}

abbrev pub at_most : ℕ → Option ℕ → Option ℕ
at_most most None = None
at_most most (Some n) = cond (nat_le n most) (Some n) None

-- the number that the digits write, if it is at most `most`
abbrev pub up_to_most : ℕ → List ℕ → Option ℕ
up_to_most most text = at_most most (number_of text)

abbrev pub byte_of : List ℕ → Option ℕ
byte_of text = up_to_most 255 text

abbrev pub event_by : Option ℕ → Option ℕ → Option ℕ → Option Event
event_by None value moment = None
event_by (Some k) None moment = None
event_by (Some k) (Some v) None = None
event_by (Some k) (Some v) (Some m) = Some (record { kind = k; value = v; moment = m })

-- KIND:VALUE@MOMENT
abbrev pub event_of : List ℕ → Option Event
event_of text = event_by (up_to_most 255 (up_to 58 text)) (up_to_most 65535 (up_to 64 (past 58 text))) (up_to_most 4294967295 (past 64 (past 58 text)))
