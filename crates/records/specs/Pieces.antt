-- A text cut at each byte of one value.
use Rattle.std.specs.Prelude.{ℕ, List, ◌==◌}
use Rattle.std.specs.List.{slice_split}

-- what stands between the bytes b, before the first and behind the last
abbrev pub pieces : ℕ → List ℕ → List (List ℕ)
pieces b xs = slice_split (λ x. x == b) xs
