-- Event records as CSV.
use Rattle.std.specs.Prelude.{◌≡◌, ℕ, ◌+◌, Bool, true, false, cond, not, ◌&&◌, List, [], ◌∷◌, ◌++◌, length, Some, None, Ok, Err, Option, Result, nat_le, nat_lt}
use Rattle.std.specs.Char.{is_ascii_digit}
use Rattle.symbols.specs.declared.Event.{Event}
use Rattle.script.specs.Words.{up_to, past, trimmed}
use Rattle.script.specs.Numbers.{number_of}
use Rattle.records.specs.Blanks.{stripped}
use Rattle.records.specs.Pieces.{pieces}
use Rattle.records.specs.declared.csv.Field.{Field}
use Rattle.records.specs.declared.csv.Fault.{Fault}
use Rattle.records.specs.declared.csv.Row.{Row}
use Rattle.records.specs.declared.csv.Row.TheVariants.{Blank as BlankR, Header as HeaderR, Event as EventR}
use Rattle.records.specs.declared.csv.BadLine.{BadLine}

abbrev pub number_up_to : Field → ℕ → Option ℕ → Result ℕ Fault
number_up_to f most None = Err (Fault.NotANumber f)
number_up_to f most (Some n) = cond (nat_le n most) (Ok n) (Err (Fault.TooLarge f))

abbrev pub field_by : Field → ℕ → List ℕ → Result ℕ Fault
field_by f most [] = Err (Fault.Missing f)
field_by f most (x ∷ xs) = number_up_to f most (number_of (x ∷ xs))

-- a number of at most `most`; blanks around it do not count
abbrev pub field_of : Field → ℕ → List ℕ → Result ℕ Fault
field_of f most text = field_by f most (stripped text)

-- a conversion's result, whose own error does not count
abbrev pub converted : {A E : Type 0} → Field → Result A E → Result A Fault
converted f (Ok x) = Ok x
converted f (Err e) = Err (Fault.TooLarge f)

abbrev pub Converts : {A E : Type 0} → (ℕ → Result A E → Type 0) → Field → Option ℕ → Result A Fault → Type 0
Converts gives f None r = r ≡ Err (Fault.NotANumber f)
Converts {A = A} {E = E} gives f (Some n) r = (q : Result A E) × gives n q × (r ≡ converted f q)

abbrev pub ReadsBy : {A E : Type 0} → (ℕ → Result A E → Type 0) → Field → List ℕ → Result A Fault → Type 0
ReadsBy gives f [] r = r ≡ Err (Fault.Missing f)
ReadsBy gives f (x ∷ xs) r = Converts gives f (number_of (x ∷ xs)) r

-- a number that a conversion takes; blanks around it do not count
abbrev pub Reads : {A E : Type 0} → (ℕ → Result A E → Type 0) → Field → List ℕ → Result A Fault → Type 0
Reads gives f text r = ReadsBy gives f (stripped text) r

-- a comma stands in the text
abbrev pub another : List ℕ → Bool
another text = nat_lt (length (up_to 44 text)) (length text)

-- moment, kind and value, and whether there is another field: the first fault is the answer
abbrev pub event_by : Result ℕ Fault → Result ℕ Fault → Result ℕ Fault → Bool → Result Event Fault
event_by (Err f) k v more = Err f
event_by (Ok m) (Err f) v more = Err f
event_by (Ok m) (Ok k) (Err f) more = Err f
event_by (Ok m) (Ok k) (Ok v) more = cond more (Err Fault.Surplus) (Ok (record { kind = k; value = v; moment = m }))

-- the event of a line, whose fields stand between commas
abbrev pub event_row : List ℕ → Result Event Fault
event_row line =
    event_by (field_of Field.Moment 4294967295 (up_to 44 line)) (field_of Field.Kind 255 (up_to 44 (past 44 line)))
    (field_of Field.Value 65535 (up_to 44 (past 44 (past 44 line)))) (another (past 44 (past 44 line)))

abbrev pub begins : List ℕ → Bool
begins [] = false
begins (x ∷ xs) = not (is_ascii_digit x)

-- the first field begins with something else than a digit
abbrev pub header : List ℕ → Bool
header line = begins (stripped (up_to 44 line))

abbrev pub row_by : Result Event Fault → Result Row Fault
row_by (Ok e) = Ok (Row.Event e)
row_by (Err f) = Err f

abbrev pub row_if : List ℕ → Bool → List ℕ → Result Row Fault
row_if [] first line = Ok Row.Blank
row_if (x ∷ xs) first line = cond (first && header line) (Ok Row.Header) (row_by (event_row line))

-- what a line has; it may be a header if no line before it has anything
abbrev pub row_of : Bool → List ℕ → Result Row Fault
row_of first line = row_if (trimmed line) first line

-- a header may still come behind blank lines
abbrev pub still_first : Bool → Result Row Fault → Bool
still_first first (Ok BlankR) = first
still_first first (Ok HeaderR) = false
still_first first (Ok (EventR e)) = false
still_first first (Err f) = false

abbrev pub rows_of : Bool → List (List ℕ) → List (Result Row Fault)
rows_of first [] = []
rows_of first (l ∷ ls) = row_of first l ∷ rows_of (still_first first (row_of first l)) ls

abbrev pub good_in : Result Row Fault → List Event
good_in (Ok (EventR e)) = e ∷ []
good_in (Ok BlankR) = []
good_in (Ok HeaderR) = []
good_in (Err f) = []

abbrev pub bad_in : ℕ → Result Row Fault → List BadLine
bad_in n (Err f) = record { number = n; fault = f } ∷ []
bad_in n (Ok r) = []

-- the events of the rows, in order
abbrev pub good_rows : List (Result Row Fault) → List Event
good_rows [] = []
good_rows (r ∷ rs) = good_in r ++ good_rows rs

-- the bad ones, in order, each with its number; the first has the number n
abbrev pub bad_rows : ℕ → List (Result Row Fault) → List BadLine
bad_rows n [] = []
bad_rows n (r ∷ rs) = bad_in n r ++ bad_rows (n + 1) rs

-- the rows of a text, whose lines end at byte 10
abbrev pub text_rows : List ℕ → List (Result Row Fault)
text_rows text = rows_of true (pieces 10 text)
