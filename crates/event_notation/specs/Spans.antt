-- A kind with its values, as the lowest and the highest code that they name.
use Rattle.std.specs.Prelude.{ℕ, ◌+◌, ◌*◌, ◌<◌, ◌≤◌, Bool, false, cond, List, [], ◌∷◌, drop, Ok, Err, Result, ◌==◌, nat_le}
use Rattle.refusal.specs.declared.Cause.TheVariants.{ReversedRange}
use Rattle.refusal.specs.declared.Refusal.{Refusal}
use Rattle.event_notation.specs.declared.number.Number.{Number}
use Rattle.event_notation.specs.declared.span.Span.{Span}
use Rattle.event_notation.specs.Numbers.{number_at}

-- the byte c comes first
abbrev pub begins : ℕ → List ℕ → Bool
begins c [] = false
begins c (b ∷ bs) = b == c

-- what is read next; the first refusal stands
abbrev pub after : {A B : Type 0} → Result A Refusal → (A → Result B Refusal) → Result B Refusal
after (Ok x) next = next x
after (Err e) next = Err e

-- two values with - between, the first at p
abbrev pub between : ℕ → Number → Number → Result Span Refusal
between p low high =
    cond (nat_le low.value high.value) (Ok (record { low = low.value; high = high.value; width = low.width + 1 + high.width }))
    (Err (record { cause = ReversedRange; place = p }))

-- one value at p, or two, by the bytes behind the first
abbrev pub range_from : ℕ → List ℕ → Number → Result Span Refusal
range_from p behind low =
    cond (begins 45 behind) (after (number_at 65535 (p + low.width + 1) (drop 1 behind)) (between p low))
    (Ok (record { low = low.value; high = low.value; width = low.width }))

abbrev pub range : ℕ → List ℕ → Result Span Refusal
range p bs = after (number_at 65535 p bs) (λ low. range_from p (drop low.width bs) low)

-- a span with a colon in front
abbrev pub colon : Span → Result Span Refusal
colon s = Ok (record { low = s.low; high = s.high; width = 1 + s.width })

-- the values behind a kind that ends before p: every value, or those behind a colon
abbrev pub values : ℕ → List ℕ → Result Span Refusal
values p bs = cond (begins 58 bs) (after (range (p + 1) (drop 1 bs)) colon) (Ok (record { low = 0; high = 65535; width = 0 }))

-- the codes of a kind's values
abbrev pub coded : Number → Span → Result Span Refusal
coded kind s = Ok (record { low = kind.value * 65536 + s.low; high = kind.value * 65536 + s.high; width = kind.width + s.width })

-- the codes that are named at p: a kind and its values
abbrev pub codes : ℕ → List ℕ → Result Span Refusal
codes p bs = after (number_at 255 p bs) (λ kind. after (values (p + kind.width) (drop kind.width bs)) (coded kind))

-- a span of numbers up to `most` that lies within a text of the given length
abbrev pub Within : ℕ → ℕ → Result Span Refusal → Type 0
Within most len (Ok s) = (s.low ≤ most) × (s.high ≤ most) × (s.width ≤ len)
Within most len (Err e) = Unit {0}

-- a span takes a byte or more
abbrev pub Wide : Result Span Refusal → Type 0
Wide (Ok s) = 0 < s.width
Wide (Err e) = Unit {0}
