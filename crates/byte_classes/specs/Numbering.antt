-- Numbers that are alike share a class, and the classes are numbered by their smallest members.
use Rattle.std.specs.Prelude.{ℕ, zero, suc, ◌+◌, Bool, cond, ◌==◌, nat_eq}

-- the first number with f among n from a on; a + n if there is none
unfoldable pub first : (ℕ → Bool) → ℕ → ℕ → ℕ
first f zero a = a
first f (suc n) a = cond (f a) a (first f n (suc a))

-- how many numbers below n have f
unfoldable pub how_many : (ℕ → Bool) → ℕ → ℕ
how_many f zero = 0
how_many f (suc n) = how_many f n + cond (f n) 1 0

-- the smallest number like b
abbrev pub smallest : (ℕ → ℕ → Bool) → ℕ → ℕ
smallest like b = first (like b) b 0

-- b is the smallest of its class
abbrev pub leads : (ℕ → ℕ → Bool) → ℕ → Bool
leads like b = smallest like b == b

-- the class of b: as many classes have a smaller member
abbrev pub class_of : (ℕ → ℕ → Bool) → ℕ → ℕ
class_of like b = how_many (leads like) (smallest like b)

-- the number of classes of the numbers below n
abbrev pub classes : (ℕ → ℕ → Bool) → ℕ → ℕ
classes like n = how_many (leads like) n

-- the smallest number of class c, of those below n
abbrev pub member : (ℕ → ℕ → Bool) → ℕ → ℕ → ℕ
member like n c = first (λ b. nat_eq (class_of like b) c) n 0
