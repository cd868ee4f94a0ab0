-- A set of positions as one number: bit p says whether p is a member. The width n is how many positions, with 0, are looked at.
use Rattle.std.specs.Prelude.{ℕ, zero, suc, ◌/◌, ◌%◌, ◌^◌, ◌<◌, Bool, false, cond, ◌&&◌, ◌||◌, T, Option, ◌==◌, bit_or}
use Rattle.pattern.specs.Tree.{Tree}
use Rattle.theory.specs.Positions.{Positions, positions, atoms}
use Rattle.theory.specs.Machine.{Machine}

abbrev pub bit : ℕ → ℕ → ℕ
bit S p = S / 2 ^ p % 2

abbrev pub holds : ℕ → ℕ → Bool
holds S p = bit S p == 1

-- the set of the positions below n with f
unfoldable pub those : ℕ → (ℕ → Bool) → ℕ
those zero f = 0
those (suc k) f = bit_or (those k f) (cond (f k) (2 ^ k) 0)

-- whether some position below n has f
unfoldable pub some : ℕ → (ℕ → Bool) → Bool
some zero f = false
some (suc k) f = some k f || f k

-- the step rule below n, from a set given by its members
abbrev pub ahead_set : {Sym : Type 0} → ℕ → (ℕ → Sym → Bool) → Positions → (ℕ → Bool) → Sym → ℕ → Bool
ahead_set n passes P S a q = passes q a && (S 0 && P.first q || some n (λ p. S p && P.follow p q))

abbrev pub back_set : {Sym : Type 0} → ℕ → (ℕ → Sym → Bool) → Positions → (ℕ → Bool) → Sym → ℕ → Bool
back_set n passes P S a p = p == 0 || passes p a && (P.last p && S 0 || some n (λ q. S q && P.follow p q))

-- a member of both, below n
abbrev pub common : ℕ → (ℕ → Bool) → (ℕ → Bool) → Bool
common n S f = some n (λ p. S p && f p)

abbrev pub masks : {Sym : Type 0} → ℕ → (ℕ → Sym → Bool) → Positions → Machine Sym ℕ
masks n passes P =
    record {
      has = holds;
      begin = 1;
      ahead = λ S a. those n (ahead_set n passes P (holds S) a);
      back = λ S a. those n (back_set n passes P (holds S) a);
      first = λ S. common n (holds S) P.first;
      last = λ S. common n (holds S) P.last;
      empty = λ S. (S == 0);
      nullable = P.nullable;
    }

-- 0 and every position of P are below n
pub record Within (n : ℕ) (P : Positions) : Type 0 where
  pub zero : 0 < n
  pub first : (p : ℕ) → T (P.first p) → p < n
  pub last : (p : ℕ) → T (P.last p) → p < n
  pub follow : (p q : ℕ) → T (P.follow p q) → (p < n) × (q < n)

-- a pattern's own machine, just as wide as its atoms ask
abbrev pub machine : {Sym : Type 0} → (ℕ → Sym → Bool) → Option Tree → Machine Sym ℕ
machine passes o = masks (suc (atoms o)) passes (positions o)
