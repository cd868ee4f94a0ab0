-- The dense rows: one of n places for each of the first w classes. A byte that names no place is no step, and bytes behind these rows say nothing.
use Rattle.std.specs.Prelude.{ℕ, ◌+◌, ◌*◌, ◌/◌, cond, ◌&&◌, min, List, drop, Some, None, Option, nat_lt, slice_index}
use Rattle.memory.specs.Steps.{Map}

-- what a byte says, of n places
abbrev pub target : ℕ → ℕ → Option ℕ
target n b = cond (nat_lt b n) (Some b) None

-- the map that the rows say: the step from place p at class c stands at c × n + p
abbrev pub dense : List ℕ → ℕ → ℕ → Map
dense bs n w = λ p c. cond (nat_lt p n && nat_lt c w) (target n (slice_index bs (c * n + p))) None

-- how many places so many bytes serve: 256 bytes a place, at most 64 places
abbrev pub rows : ℕ → ℕ
rows len = min (len / 256) 64

-- the watermark once class c is in use
abbrev pub wider : ℕ → ℕ → ℕ
wider w c = cond (nat_lt c w) w (c + 1)

-- the bytes behind those of the n places
abbrev pub behind : ℕ → List ℕ → List ℕ
behind n bs = drop (256 * n) bs
