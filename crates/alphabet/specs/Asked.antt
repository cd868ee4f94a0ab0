-- Tests go by number, from 1; a number that no test has passes nothing.
use Rattle.std.specs.Prelude.{ℕ, zero, suc, Bool, false, cond, List, [], ◌∷◌, ◌==◌}

-- what the test with the number k answers, where f answers for a test
abbrev pub asked : {A : Type 0} → (A → Bool) → List A → ℕ → Bool
asked f [] k = false
asked f (t ∷ ts) zero = false
asked f (t ∷ ts) (suc k) = cond (k == 0) (f t) (asked f ts k)
