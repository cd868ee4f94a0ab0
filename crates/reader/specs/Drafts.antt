-- What a draft holds: its tests, numbered from 1, and its codes.
use Rattle.std.specs.Prelude.{ℕ, zero, suc, List, take, None, Option}
use Rattle.std.specs.List.{slice_get}
use Rattle.pattern.specs.declared.Code.{Code}
use Rattle.reader.specs.declared.draft.Draft.{Draft}

abbrev pub tests_of : {T : Type 0} → Draft T → List T
tests_of d = take d.atoms d.tests

abbrev pub codes_of : {T : Type 0} → Draft T → List Code
codes_of d = take d.used d.codes

-- the test of a number; 0 and the numbers past the last have none
abbrev pub numbered : {T : Type 0} → List T → ℕ → Option T
numbered ts zero = None
numbered ts (suc k) = slice_get ts k
