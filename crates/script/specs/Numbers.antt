-- Decimal numbers of at most 64 bits.
use Rattle.std.specs.Prelude.{ℕ, ◌+◌, ◌-◌, ◌*◌, ◌^◌, min, cond, ◌&&◌, List, [], ◌∷◌, Some, None, Option, nat_le}

-- the number, or the largest of 64 bits
abbrev pub clamped : ℕ → ℕ
clamped n = min n (2 ^ 64 - 1)

abbrev pub add_digit : ℕ → ℕ → Option ℕ
add_digit n b = cond (nat_le 48 b && nat_le b 57) (Some (clamped (clamped (n * 10) + (b - 48)))) None

abbrev pub and_then : Option ℕ → (ℕ → Option ℕ) → Option ℕ
and_then None f = None
and_then (Some m) f = f m

-- the number that begins with n and goes on with the digits
abbrev pub digits : ℕ → List ℕ → Option ℕ
digits n [] = Some n
digits n (b ∷ bs) = and_then (add_digit n b) (λ m. digits m bs)

abbrev pub number_of : List ℕ → Option ℕ
number_of [] = None
number_of (b ∷ bs) = digits 0 (b ∷ bs)
