-- The definitions at small patterns over bytes: the test n passes the n-th byte of a row.
use Rattle.std.specs.Prelude.{◌≡◌, ℕ, ◌-◌, Bool, true, List, [], ◌∷◌, length, Some, None, ◌==◌, slice_index_or}
use Rattle.pattern.specs.declared.Code.{Code}
use Rattle.pattern.specs.declared.Code.TheVariants.{Atom, Join, Choice, Star}
use Rattle.pattern.specs.Codes.{tree}
use Rattle.theory.specs.Machine.{Machine}
use Rattle.theory.specs.Scans.{find, list, whole}
use Rattle.theory.specs.Reads.{list_reads}
use Rattle.theory.specs.Masks.{machine}

abbrev pub byte_at : List ℕ → ℕ → ℕ → Bool
byte_at bytes n b = slice_index_or bytes (n - 1) 256 == b

-- the pattern of these codes, whose atoms stand for these bytes
abbrev pub bytes : List Code → List ℕ → Machine ℕ ℕ
bytes codes row = machine (byte_at row) (tree codes)

-- a|ab
abbrev pub a_or_ab : Machine ℕ ℕ
a_or_ab = bytes (Atom ∷ Atom ∷ Atom ∷ Join ∷ Choice ∷ []) (97 ∷ 97 ∷ 98 ∷ [])

-- abcd|c
abbrev pub abcd_or_c : Machine ℕ ℕ
abcd_or_c = bytes (Atom ∷ Atom ∷ Join ∷ Atom ∷ Join ∷ Atom ∷ Join ∷ Atom ∷ Choice ∷ []) (97 ∷ 98 ∷ 99 ∷ 100 ∷ 99 ∷ [])

-- a*
abbrev pub any_a : Machine ℕ ℕ
any_a = bytes (Atom ∷ Star ∷ []) (97 ∷ [])

-- a
abbrev pub one_a : Machine ℕ ℕ
one_a = bytes (Atom ∷ []) (97 ∷ [])

pub record Trials : Type 0 where
  -- in "xab" and in "abcd"
  pub longest : find a_or_ab (120 ∷ 97 ∷ 98 ∷ []) 0 ≡ Some (record { start = 1; end = 3 })
  pub leftmost : find abcd_or_c (97 ∷ 98 ∷ 99 ∷ 100 ∷ []) 0 ≡ Some (record { start = 0; end = 4 })
  -- in "bb"
  pub never_empty : find any_a (98 ∷ 98 ∷ []) 0 ≡ None
  pub empty_whole : whole any_a [] ≡ true
  -- in "aaa" with two entries
  pub listed : list one_a (97 ∷ 97 ∷ 97 ∷ []) 2 0 ≡ record { written = record { start = 0; end = 1 } ∷ record { start = 1; end = 2 } ∷ []; rest = Some 2 }
  pub reads : length (list_reads one_a (97 ∷ 97 ∷ 97 ∷ []) 2 0) ≡ 11
