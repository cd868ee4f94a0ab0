-- Which bytes are an atom of the event notation, and which events the atom passes.
use Rattle.std.specs.Prelude.{◌≡◌, ℕ, ◌+◌, ◌-◌, ◌*◌, ◌^◌, ◌≤◌, Bool, true, false, not, ◌&&◌, ◌||◌, List, [], ◌∷◌, ◌++◌, length, ◌==◌, nat_le}
use Rattle.symbols.specs.declared.Event.{Event}
use Rattle.symbols.specs.declared.EventTest.{EventTest}
use Rattle.event_notation.specs.Numbers.{digit}

-- what an atom means: every event, the events of one kind with a value from low to high, or all but those
pub data Meaning : Type 0 where
  any : Meaning
  some : (kind low high : ℕ) → Meaning
  others : (kind low high : ℕ) → Meaning

abbrev pub picks : Meaning → Event → Bool
picks any e = true
picks (some kind low high) e = e.kind == kind && (nat_le low e.value && nat_le e.value high)
picks (others kind low high) e = not (e.kind == kind && (nat_le low e.value && nat_le e.value high))

abbrev pub test_of : Meaning → EventTest
test_of any = record { low = 0; high = 16777215; inverted = false }
test_of (some kind low high) = record { low = kind * 65536 + low; high = kind * 65536 + high; inverted = false }
test_of (others kind low high) = record { low = kind * 65536 + low; high = kind * 65536 + high; inverted = true }

abbrev pub Digits : List ℕ → Type 0
Digits [] = Unit {0}
Digits (b ∷ bs) = (digit b ≡ true) × Digits bs

abbrev pub decimal : List ℕ → ℕ
decimal [] = 0
decimal (b ∷ bs) = (b - 48) * 10 ^ length bs + decimal bs

-- one to five digits whose decimal value is n, at most `most`
pub record Numeral (most : ℕ) (bs : List ℕ) (n : ℕ) : Type 0 where
  pub digits : Digits bs
  pub one_or_more : 1 ≤ length bs
  pub five_or_less : length bs ≤ 5
  pub value : decimal bs ≡ n
  pub bound : n ≤ most

-- how an atom is written: the sign . alone, a kind alone, with one value, or with two
pub data Form : Type 0 where
  dot : Form
  kind_alone : Form
  one_value : Form
  two_values : Form

-- the bytes behind a kind, and the values that they name
abbrev pub Values : Form → List ℕ → ℕ → ℕ → Type 0
Values dot bs low high = ⊥
Values kind_alone bs low high = (bs ≡ []) × (low ≡ 0) × (high ≡ 65535)
Values one_value bs low high = (v : List ℕ) × (bs ≡ 58 ∷ v) × Numeral 65535 v low × (high ≡ low)
Values two_values bs low high = (v : List ℕ) × (w : List ℕ) × (bs ≡ 58 ∷ (v ++ 45 ∷ w)) × Numeral 65535 v low × Numeral 65535 w high × (low ≤ high)

-- a kind and its values
pub record Selected (form : Form) (bs : List ℕ) (kind low high : ℕ) : Type 0 where
  pub front : List ℕ
  pub behind : List ℕ
  pub whole : bs ≡ front ++ behind
  pub numeral : Numeral 255 front kind
  pub values : Values form behind low high

pub data Atom (form : Form) (bs : List ℕ) (m : Meaning) : Type 0 where
  is_dot : form ≡ dot → bs ≡ 46 ∷ [] → m ≡ any → Atom form bs m
  is_plain : (kind low high : ℕ) → Selected form bs kind low high → m ≡ some kind low high → Atom form bs m
  is_inverted : (rest : List ℕ) (kind low high : ℕ) → bs ≡ 33 ∷ rest → Selected form rest kind low high → m ≡ others kind low high → Atom form bs m

-- whether an atom goes on with the byte b: a number with a digit, a kind with a colon, a value with -
abbrev pub goes_on : Form → ℕ → Bool
goes_on dot b = false
goes_on kind_alone b = digit b || b == 58
goes_on one_value b = digit b || b == 45
goes_on two_values b = digit b

abbrev pub Ends : (ℕ → Bool) → List ℕ → Type 0
Ends more [] = Unit {0}
Ends more (b ∷ bs) = more b ≡ false

-- the first w bytes are an atom with this meaning, and it does not go on behind them
pub record AtomAt (bs : List ℕ) (m : Meaning) (w : ℕ) : Type 0 where
  pub form : Form
  pub front : List ℕ
  pub behind : List ℕ
  pub whole : bs ≡ front ++ behind
  pub width : length front ≡ w
  pub atom : Atom form front m
  pub ends : Ends (goes_on form) behind
