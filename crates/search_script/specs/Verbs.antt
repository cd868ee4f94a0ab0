-- The first word of a line that searches.
use Rattle.std.specs.Prelude.{ℕ, cond, List, Some, None, codes, Option}
use Rattle.script.specs.Words.{same}
use Rattle.search_script.specs.declared.verb.Manner.{Manner}
use Rattle.search_script.specs.declared.verb.Verb.{Verb}

abbrev pub manner_of : List ℕ → Option Manner
manner_of w =
    cond (same w (codes "record")) (Some Manner.Text)
    (cond (same w (codes "record-hex")) (Some Manner.Hex)
    (cond (same w (codes "record-repeat")) (Some Manner.HexRepeat)
    (cond (same w (codes "record-file")) (Some Manner.File)
    (cond (same w (codes "events")) (Some Manner.Events)
    (cond (same w (codes "events-repeat")) (Some Manner.EventsRepeat)
    (cond (same w (codes "events-file")) (Some Manner.EventsFile) None))))))

abbrev pub search_verb_of : List ℕ → Option Verb
search_verb_of w =
    cond (same w (codes "open")) (Some Verb.Open)
    (cond (same w (codes "find")) (Some Verb.Find)
    (cond (same w (codes "list")) (Some Verb.List)
    (cond (same w (codes "whole")) (Some Verb.Whole)
    (cond (same w (codes "limit")) (Some Verb.Limit)
    (cond (same w (codes "clear")) (Some Verb.Clear)
    (cond (same w (codes "memory")) (Some Verb.Memory) None))))))

abbrev pub or : Option Verb → Option Verb → Option Verb
or (Some v) other = Some v
or None other = other

abbrev pub recording : Option Manner → Option Verb
recording (Some m) = Some (Verb.Record m)
recording None = None

abbrev pub verb_of : List ℕ → Option Verb
verb_of w = or (recording (manner_of w)) (search_verb_of w)
