-- Events in one text, with spaces between.
use Rattle.std.specs.Prelude.{◌≡◌, ℕ, ◌+◌, List, [], ◌∷◌, ◌++◌, Some, None, Ok, Err, codes, Option, Result}
use Rattle.std.specs.Fmt.{decimal}
use Rattle.records.specs.declared.events.EventsError.{EventsError}
use Rattle.records.specs.declared.events.EventsError.TheVariants.{NotAnEvent, NoMemory}
use Rattle.symbols.specs.declared.Event.{Event}
use Rattle.script.specs.Symbols.{event_of}
use Rattle.records.specs.Blanks.{stripped}
use Rattle.records.specs.Pieces.{pieces}

-- a piece in front of the words, unless it is empty
abbrev pub and_word : List ℕ → List (List ℕ) → List (List ℕ)
and_word [] ws = ws
and_word (x ∷ xs) ws = (x ∷ xs) ∷ ws

-- the words among the pieces, without blanks around them
abbrev pub words_of : List (List ℕ) → List (List ℕ)
words_of [] = []
words_of (p ∷ ps) = and_word (stripped p) (words_of ps)

abbrev pub and_event : Option Event → ℕ → Result (List Event) ℕ → Result (List Event) ℕ
and_event None n r = Err n
and_event (Some e) n (Ok es) = Ok (e ∷ es)
and_event (Some e) n (Err k) = Err k

-- the events of the words, or the number of the first that is not an event; the first word has the number n
abbrev pub events_from : ℕ → List (List ℕ) → Result (List Event) ℕ
events_from n [] = Ok []
events_from n (w ∷ ws) = and_event (event_of w) n (events_from (n + 1) ws)

abbrev pub events_of : List ℕ → Result (List Event) ℕ
events_of text = events_from 1 (words_of (pieces 32 text))

-- the events that were read are those of the text, or none if it has something else; without memory nothing is said
abbrev pub EventsRead : List ℕ → List Event → Result (Unit {0}) EventsError → Type 0
EventsRead text es (Ok _) = events_of text ≡ Ok es
EventsRead text es (Err (NotAnEvent k)) = (events_of text ≡ Err k) × (es ≡ [])
EventsRead text es (Err NoMemory) = Unit {0}

-- what it says to people that a text is not read
abbrev pub events_error_text : EventsError → List ℕ
events_error_text (NotAnEvent k) = codes "word " ++ decimal k ++ codes " is not an event"
events_error_text NoMemory = codes "out of memory"
