-- A number: the whole run of digits, one to five of them, within a bound.
use Rattle.std.specs.Prelude.{ℕ, ◌+◌, ◌-◌, ◌*◌, ◌<◌, ◌≤◌, Bool, cond, ◌&&◌, List, [], ◌∷◌, Some, None, Ok, Err, Option, Result, ◌==◌, nat_le, nat_lt}
use Rattle.refusal.specs.declared.Cause.TheVariants.{BadNumber}
use Rattle.refusal.specs.declared.Refusal.{Refusal}
use Rattle.event_notation.specs.declared.number.Number.{Number}

abbrev pub digit : ℕ → Bool
digit b = nat_le 48 b && nat_le b 57

-- the number whose first w digits make v, by the bytes behind them; none where there are over five
abbrev pub digits : ℕ → ℕ → List ℕ → Option Number
digits v w [] = Some (record { value = v; width = w })
digits v w (b ∷ bs) = cond (digit b) (cond (w == 5) None (digits (v * 10 + (b - 48)) (w + 1) bs)) (Some (record { value = v; width = w }))

-- a run of at most five digits within a text of the given length
abbrev pub Inside : ℕ → Option Number → Type 0
Inside len (Some n) = (n.width ≤ 5) × (n.width ≤ len)
Inside len None = Unit {0}

-- a number that has a digit and is at most `most`; else a refusal at p, where its first digit stands or should
abbrev pub bounded : ℕ → ℕ → Option Number → Result Number Refusal
bounded most p (Some n) = cond (nat_lt 0 n.width && nat_le n.value most) (Ok n) (Err (record { cause = BadNumber; place = p }))
bounded most p None = Err (record { cause = BadNumber; place = p })

-- the number that stands at p, by the bytes from there on
abbrev pub number_at : ℕ → ℕ → List ℕ → Result Number Refusal
number_at most p bs = bounded most p (digits 0 0 bs)

-- a number within its bound that lies within a text of the given length
abbrev pub Bounded : ℕ → ℕ → Result Number Refusal → Type 0
Bounded most len (Ok n) = (n.value ≤ most) × (0 < n.width) × (n.width ≤ 5) × (n.width ≤ len)
Bounded most len (Err e) = Unit {0}
