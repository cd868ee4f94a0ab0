-- The classes of events under a draft's tests: the tests' ranges cut the codes, and a class is what lies between two cuts.
use Rattle.std.specs.Prelude.{◌≡◌, ℕ, ◌+◌, ◌-◌, ◌<◌, Bool, cond, ◌&&◌, ◌⊎◌, List, [], ◌∷◌, length, count_by, ◌==◌, nat_le, nat_lt, slice_index}
use Rattle.std.specs.List.{AllByRecursion}
use Rattle.symbols.specs.declared.EventTest.{EventTest}
use Rattle.symbols.specs.Tests.{passes_code}
use Rattle.alphabet.specs.Asked.{asked}

-- x put into its place in an ascending row, unless it is there
abbrev pub placed : ℕ → List ℕ → List ℕ
placed x [] = x ∷ []
placed x (y ∷ ys) = cond (nat_lt x y) (x ∷ y ∷ ys) (cond (x == y) (y ∷ ys) (y ∷ placed x ys))

-- the cuts with one more at x; one at 0 or past the last code would cut nothing off
abbrev pub cut : ℕ → List ℕ → List ℕ
cut x cs = cond (nat_lt 0 x && nat_lt x 16777216) (placed x cs) cs

-- the cuts with those at each test's lowest code and highest code + 1
abbrev pub cut_by : List EventTest → List ℕ → List ℕ
cut_by [] cs = cs
cut_by (t ∷ ts) cs = cut_by ts (cut (t.high + 1) (cut t.low cs))

abbrev pub cuts : List EventTest → List ℕ
cuts ts = cut_by ts []

-- how many cuts are at or below a code
abbrev pub at_or_below : ℕ → List ℕ → ℕ
at_or_below code cs = count_by (λ x. nat_le x code) cs

abbrev pub event_class : List EventTest → ℕ → ℕ
event_class ts code = at_or_below code (cuts ts)

abbrev pub event_classes : List EventTest → ℕ
event_classes ts = length (cuts ts) + 1

-- an event with the code passes the test with the number k
abbrev pub event_passes : List EventTest → ℕ → ℕ → Bool
event_passes ts k code = asked (λ t. passes_code t code) ts k

-- the lowest code of class c: the cut below it, or 0
abbrev pub lowest_code : List ℕ → ℕ → ℕ
lowest_code cs c = cond (c == 0) 0 (slice_index cs (c - 1))

-- the class c passes the test with the number k, as its lowest code does
abbrev pub event_accepts : List EventTest → ℕ → ℕ → Bool
event_accepts ts c k = nat_lt c (event_classes ts) && event_passes ts k (lowest_code (cuts ts) c)

-- each is below all behind it
abbrev pub Ascending : List ℕ → Type 0
Ascending [] = Unit {0}
Ascending (x ∷ xs) = AllByRecursion (λ y. x < y) xs × Ascending xs

abbrev pub Among : ℕ → List ℕ → Type 0
Among x [] = ⊥
Among x (y ∷ ys) = (x ≡ y) ⊎ Among x ys

-- x is the lowest code of a test, or its highest code + 1
abbrev pub Bounds : List EventTest → ℕ → Type 0
Bounds [] x = ⊥
Bounds (t ∷ ts) x = ((t.low ≡ x) ⊎ (t.high + 1 ≡ x)) ⊎ Bounds ts x

-- The law of the cuts, which settles them
pub record Cut (ts : List EventTest) : Type 0 where
  pub ascending : Ascending (cuts ts)
  pub every : (x : ℕ) → 0 < x → x < 16777216 → Bounds ts x → Among x (cuts ts)
  pub only : (x : ℕ) → Among x (cuts ts) → (0 < x) × (x < 16777216) × Bounds ts x
