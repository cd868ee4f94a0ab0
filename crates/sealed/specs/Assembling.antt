-- How far sealing has come: the next atom, the parts so far with the latest first, and which positions follow which.
use Rattle.std.specs.Prelude.{◌≡◌, ℕ, ◌+◌, Bool, true, false, List, ◌∷◌, map, reverse, count_by, Some, None, Option}
use Rattle.pattern.specs.declared.Code.{Code}
use Rattle.pattern.specs.declared.Code.TheVariants.{Atom, Join, Choice, Star, Plus, Maybe}
use Rattle.theory.specs.Positions.{Positions}
use Rattle.theory.specs.Seal as seal
use Rattle.sealed.specs.declared.part.Part.{Part}
use Rattle.sealed.specs.declared.assembly.Assembly.{Assembly}
use Rattle.sealed.specs.Parts.{part_of}
use Rattle.alphabet.specs.Sets.{blank}
use Rattle.sealed.specs.Tables.{entry}

-- the part without words
abbrev pub no_part : Part
no_part = record { nullable = false; first = blank; last = blank }

-- the parts, the latest first
abbrev pub stack : List Part → List seal.Part
stack xs = map part_of (reverse xs)

-- what the codes that are left make of it
abbrev pub rest : Assembly → List Code → Option Positions
rest a cs = seal.seal cs (a.atoms + 1) (stack a.parts.items) (entry a.next)

-- one code was taken in, or the codes are of no pattern
abbrev pub Taken : Code → Assembly → Assembly → Option (Unit {0}) → Type 0
Taken code a b (Some u) = (cs : List Code) → rest a (code ∷ cs) ≡ rest b cs
Taken code a b None = (cs : List Code) → rest a (code ∷ cs) ≡ None

abbrev pub is_atom : Code → Bool
is_atom Atom = true
is_atom Join = false
is_atom Choice = false
is_atom Star = false
is_atom Plus = false
is_atom Maybe = false

-- how many atoms
abbrev pub atom_codes : List Code → ℕ
atom_codes cs = count_by is_atom cs
