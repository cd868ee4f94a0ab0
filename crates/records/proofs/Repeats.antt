-- Copies of a piece, one after the other.
use Rattle.std.proofs.Common.{◌≡◌, ℕ, zero, suc, ◌+◌, ◌*◌, ◌/◌, ◌<◌, ◌≤◌, List, [], ◌∷◌, ◌++◌, length, sym, refl, ap, ◌∙◌, append_assoc, append-nil, div-lt_iff_lt-mul, mul-zero, le-div_iff_mul-le, add-one, arith}
use Rattle.records.specs.Copies.{copies}

pub no_symbols : (n l : ℕ) → l ≡ 0 → n * l ≤ 16777216
no_symbols n l e = rw e (rw mul-zero (omega arith))

pub fits : (n l most : ℕ) → (l ≡ 0 → ⊥) → n ≤ most / l → n * l ≤ most
fits n l most some h = (le-div_iff_mul-le {k = l} {x = n} {y = most} (omega arith)).0 h

pub too_many : (n l most : ℕ) → (l ≡ 0 → ⊥) → most / l < n → most < n * l
too_many n l most some h = (div-lt_iff_lt-mul {k = l} {x = most} {y = n} (omega arith)).0 h

module _ {A : Type 0} where
  of_nothing : (n : ℕ) → copies {A = A} n [] ≡ []
  of_nothing zero = refl
  of_nothing (suc n) = of_nothing n

  pub empty : (n : ℕ) (xs : List A) → length xs ≡ 0 → [] ≡ copies n xs
  empty n [] h = sym (of_nothing n)
  empty n (x ∷ xs) h = absurd (omega arith)

  behind : (n : ℕ) (xs : List A) → copies n xs ++ xs ≡ copies (suc n) xs
  behind zero xs = sym (append-nil xs)
  behind (suc n) xs = append_assoc xs (copies n xs) xs ∙ ap (λ l. xs ++ l) (behind n xs)

  pub more : (made again xs : List A) (n : ℕ) → made ≡ copies n xs → again ≡ made ++ xs → again ≡ copies (n + 1) xs
  more made again xs n so_far e = rw add-one (e ∙ ap (λ l. l ++ xs) so_far ∙ behind n xs)
