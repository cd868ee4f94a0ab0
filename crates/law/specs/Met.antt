-- The sets and the steps that a series meets, each counted once. The searches alone decide them.
use Rattle.std.specs.Prelude.{ℕ, ◌+◌, Bool, true, false, cond, ◌&&◌, List, [], ◌∷◌, ◌++◌, map, Some, None, Option, ◌==◌}
use Rattle.refusal.specs.declared.Refusal.{Refusal}
use Rattle.theory.specs.declared.Direction.{Direction}
use Rattle.theory.specs.declared.Direction.TheVariants.{Ahead, Back}
use Rattle.theory.specs.Reads.{Read, State, source, target, Step, step}
use Rattle.law.specs.Subject.{Subject}
use Rattle.law.specs.Calls.{Request, Search, Limit, Clear, refusal, reads}

abbrev pub unless_refused : {A : Type 0} → Option Refusal → List A → List A
unless_refused None xs = xs
unless_refused (Some q) xs = []

-- the reads of a call
abbrev pub call_reads : {Sym States : Type 0} → Subject Sym States → Request Sym → List (Read Sym States)
call_reads M (Search q) = unless_refused (refusal (Search q)) (reads M q)
call_reads M (Limit l) = []
call_reads M Clear = []

-- the reads of a series, in order
abbrev pub all_reads : {Sym States : Type 0} → Subject Sym States → List (Request Sym) → List (Read Sym States)
all_reads M [] = []
all_reads M (c ∷ cs) = call_reads M c ++ all_reads M cs

-- a read meets the set that it is in, and the one to which the step rule leads
abbrev pub sets_met : {Sym States : Type 0} → Subject Sym States → List (Read Sym States) → List (State States)
sets_met M [] = []
sets_met M (x ∷ xs) = source x ∷ target M.machine x ∷ sets_met M xs

-- and a step, by its set, direction and class
abbrev pub steps_met : {Sym States : Type 0} → Subject Sym States → List (Read Sym States) → List (Step States)
steps_met M = map (step M.class_of)

abbrev pub same_direction : Direction → Direction → Bool
same_direction Ahead Ahead = true
same_direction Ahead Back = false
same_direction Back Ahead = false
same_direction Back Back = true

abbrev pub same_state : {Sym States : Type 0} → Subject Sym States → State States → State States → Bool
same_state M a b = same_direction a.direction b.direction && M.same a.set b.set

abbrev pub same_step : {Sym States : Type 0} → Subject Sym States → Step States → Step States → Bool
same_step M a b = same_state M a.from b.from && a.class == b.class

abbrev pub among : {A : Type 0} → (A → A → Bool) → A → List A → Bool
among same x [] = false
among same x (y ∷ ys) = cond (same x y) true (among same x ys)

-- how many of xs are not among those seen, each counted once
abbrev pub new : {A : Type 0} → (A → A → Bool) → List A → List A → ℕ
new same seen [] = 0
new same seen (x ∷ xs) = cond (among same x seen) (new same seen xs) (1 + new same (x ∷ seen) xs)

abbrev pub number_of_sets : {Sym States : Type 0} → Subject Sym States → List (Request Sym) → ℕ
number_of_sets M cs = new (same_state M) [] (sets_met M (all_reads M cs))

abbrev pub number_of_steps : {Sym States : Type 0} → Subject Sym States → List (Request Sym) → ℕ
number_of_steps M cs = new (same_step M) [] (steps_met M (all_reads M cs))
