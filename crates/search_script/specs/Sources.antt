-- What a record is made of.
use Rattle.std.specs.Prelude.{ℕ, List, [], ◌∷◌, Some, None, Ok, Err, Option, Result}
use Rattle.script.specs.Words.{past, trimmed}
use Rattle.script.specs.Arguments.{count_before}
use Rattle.search_script.specs.Mistakes.{lifted}
use Rattle.search_script.specs.declared.verb.Manner.{Manner}
use Rattle.search_script.specs.declared.verb.Manner.TheVariants.{Text as TextM, Hex as HexM, HexRepeat as HexRepeatM, File as FileM, Events as EventsM, EventsRepeat as EventsRepeatM, EventsFile as EventsFileM}
use Rattle.search_script.specs.declared.command.Source.{Source}
use Rattle.search_script.specs.declared.command.Source.TheVariants.{Text as TextS, Hex as HexS, HexRepeat as HexRepeatS, File as FileS, Events as EventsS, EventsRepeat as EventsRepeatS, EventsFile as EventsFileS}
use Rattle.search_script.specs.declared.command.Mistake.{Mistake}

-- a source by its contents
pub data Made : Type 0 where
  text : List ℕ → Made
  hex : List ℕ → Made
  hex_repeat : ℕ → List ℕ → Made
  file : List ℕ → Made
  events : List ℕ → Made
  events_repeat : ℕ → List ℕ → Made
  events_file : List ℕ → Made

abbrev pub path_of : List ℕ → Result (List ℕ) Mistake
path_of [] = Err Mistake.NoPath
path_of (x ∷ xs) = Ok (x ∷ xs)

-- what is made of the answer, or the mistake
abbrev pub of : {A : Type 0} → (A → Made) → Result A Mistake → Result Made Mistake
of f (Ok a) = Ok (f a)
of f (Err m) = Err m

abbrev pub source_by : Manner → List ℕ → List ℕ → Result Made Mistake
source_by TextM raw rest = Ok (text raw)
source_by HexM raw rest = Ok (hex rest)
source_by HexRepeatM raw rest = of (λ n. hex_repeat n (past 32 rest)) (lifted (count_before rest))
source_by FileM raw rest = of file (path_of rest)
source_by EventsM raw rest = Ok (events rest)
source_by EventsRepeatM raw rest = of (λ n. events_repeat n (past 32 rest)) (lifted (count_before rest))
source_by EventsFileM raw rest = of events_file (path_of rest)

-- only a raw text keeps the blanks at its end
abbrev pub source_of : Manner → List ℕ → Result Made Mistake
source_of m raw = source_by m raw (trimmed raw)

abbrev pub made : Source → Made
made (TextS t) = text t.now
made (HexS t) = hex t.now
made (HexRepeatS n t) = hex_repeat n t.now
made (FileS t) = file t.now
made (EventsS t) = events t.now
made (EventsRepeatS n t) = events_repeat n t.now
made (EventsFileS t) = events_file t.now

abbrev pub told_source : Result Source Mistake → Result Made Mistake
told_source (Ok s) = Ok (made s)
told_source (Err m) = Err m
