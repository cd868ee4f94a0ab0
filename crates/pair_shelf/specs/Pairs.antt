-- A table of pairs: the map that its steps say, and that no two of them are from one place at one class.
use Rattle.std.specs.Prelude.{ℕ, Bool, true, not, ◌&&◌, ◌||◌, List, [], ◌∷◌, nat_lt, is_none, slice_index_or}
use Rattle.std.specs.List.{fold, filter}
use Rattle.sets.specs.Members.{Members}
use Rattle.memory.specs.Steps.{Map, noted, nothing}
use Rattle.pair_shelf.specs.declared.step.Step.{Step}

abbrev pub with_step : Map → Step → Map
with_step f s = noted f s.place s.class s.target

-- each step is noted in turn
abbrev pub pairs : List Step → Map
pairs xs = fold with_step nothing xs

-- a step that the map lacks, within its bounds
abbrev pub new : Map → Step → Bool
new f s = nat_lt s.place 64 && (nat_lt s.target 64 && (nat_lt s.class 256 && is_none (f s.place s.class)))

-- each step is new when it is noted, in turn, on top of a map
abbrev pub new_in_turn : Map → List Step → Bool
new_in_turn f [] = true
new_in_turn f (s ∷ xs) = new f s && new_in_turn (with_step f s) xs

-- each step was new when it was noted
abbrev pub distinct : List Step → Bool
distinct xs = new_in_turn nothing xs

-- the steps that are neither from nor to the places
abbrev pub kept : Members → List Step → List Step
kept m xs = filter (λ s. not (m s.place || m s.target)) xs

abbrev pub no_step : Step
no_step = record { place = 0; class = 0; target = 0 }

-- the step at a place of the table
abbrev pub at : List Step → ℕ → Step
at xs i = slice_index_or xs i no_step
