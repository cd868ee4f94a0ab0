-- A shelf's map from place and class to place, its size, and what noting and dropping make of it.
-- Throughout, n is how many places a shelf has and m its capacity in steps.
use Rattle.std.specs.Prelude.{◌≡◌, ℕ, zero, suc, ◌+◌, ◌*◌, ◌/◌, ◌%◌, ◌<◌, ◌≤◌, Bool, true, false, cond, ◌&&◌, Some, None, Option, ◌==◌, nat_lt, is_none}
use Rattle.sets.specs.Members.{Members}

-- the place that a step from a place leads to at a class, if there is such a step
abbrev pub Map : Type 0
Map = ℕ → ℕ → Option ℕ

-- the map without a step
abbrev pub nothing : Map
nothing = λ _ _. None

-- the map with the step from p at class c to t
abbrev pub noted : Map → ℕ → ℕ → ℕ → Map
noted f p c t = λ q d. cond (q == p && d == c) (Some t) (f q d)

-- a step's target, unless it is among the places
abbrev pub unless : Members → Option ℕ → Option ℕ
unless places None = None
unless places (Some t) = cond (places t) None (Some t)

-- the map without the steps from or to the places
abbrev pub without : Map → Members → Map
without f places = λ q d. cond (places q) None (unless places (f q d))

abbrev pub one : Option ℕ → ℕ
one None = 0
one (Some _) = 1

-- how many of the first k have a value
unfoldable pub tally : (ℕ → Option ℕ) → ℕ → ℕ
tally g zero = 0
tally g (suc k) = one (g k) + tally g k

-- how many steps the map has from its first n places
unfoldable pub size : ℕ → Map → ℕ
size n f = tally (λ i. f (i / 256) (i % 256)) (n * 256)

-- may the step from p at class c to t be noted: both places are the shelf's, the class is at most 255,
-- place and class have no step yet, and there is room for one more
abbrev pub notable : ℕ → ℕ → Map → ℕ → ℕ → ℕ → Bool
notable n m f p c t = nat_lt p n && (nat_lt t n && (nat_lt c 256 && (is_none (f p c) && nat_lt (size n f) m)))

-- the map after a note that answered r
abbrev pub after : Bool → Map → ℕ → ℕ → ℕ → Map
after true f p c t = noted f p c t
after false f p c t = f

-- every place in the map is one of the shelf's, every class at most 255
abbrev pub Within : ℕ → Map → Type 0
Within n f = (p c t : ℕ) → f p c ≡ Some t → (p < n) × (c < 256) × (t < n)

-- what holds of every shelf: at most 64 places, room for a step if it has a place,
-- only its own places in the map, and no more steps than its capacity
pub record Bounds (n m : ℕ) (f : Map) : Type 0 where
  pub few : n ≤ 64
  pub some : 0 < n → 0 < m
  pub within : Within n f
  pub fits : size n f ≤ m
