-- The positions of a tree as facts, to go by cases on.
use Rattle.std.proofs.Common.{◌≡◌, ℕ, ◌&&◌, ◌||◌, T, ◌⊎◌, ◌↔◌}
use Rattle.pattern.specs.Tree.{Tree}
use Rattle.pattern.specs.Tree.Tree.{atom, join, choice, star, plus, maybe}
use Rattle.theory.specs.Positions.{nullable, first, last, follow}
use Rattle.theory.proofs.Tests.{and_is, or_is, eq_is, self_is}

abbrev pub First : Tree → ℕ → Type 0
First (atom n) p = p ≡ n
First (join l r) p = First l p ⊎ (T (nullable l) × First r p)
First (choice l r) p = First l p ⊎ First r p
First (star t) p = First t p
First (plus t) p = First t p
First (maybe t) p = First t p

abbrev pub Last : Tree → ℕ → Type 0
Last (atom n) p = p ≡ n
Last (join l r) p = Last r p ⊎ (T (nullable r) × Last l p)
Last (choice l r) p = Last l p ⊎ Last r p
Last (star t) p = Last t p
Last (plus t) p = Last t p
Last (maybe t) p = Last t p

abbrev pub Follow : Tree → ℕ → ℕ → Type 0
Follow (atom n) p q = ⊥
Follow (join l r) p q = (Follow l p q ⊎ Follow r p q) ⊎ (Last l p × First r q)
Follow (choice l r) p q = Follow l p q ⊎ Follow r p q
Follow (star t) p q = Follow t p q ⊎ (Last t p × First t q)
Follow (plus t) p q = Follow t p q ⊎ (Last t p × First t q)
Follow (maybe t) p q = Follow t p q

pub first_is : (t : Tree) (p : ℕ) → T (first t p) ↔ First t p
first_is (atom n) p = eq_is p n
first_is (join l r) p =
    or_is (first l p) (nullable l && first r p) (first_is l p) (and_is (nullable l) (first r p) (self_is (nullable l)) (first_is r p))
first_is (choice l r) p = or_is (first l p) (first r p) (first_is l p) (first_is r p)
first_is (star t) p = first_is t p
first_is (plus t) p = first_is t p
first_is (maybe t) p = first_is t p

pub last_is : (t : Tree) (p : ℕ) → T (last t p) ↔ Last t p
last_is (atom n) p = eq_is p n
last_is (join l r) p =
    or_is (last r p) (nullable r && last l p) (last_is r p) (and_is (nullable r) (last l p) (self_is (nullable r)) (last_is l p))
last_is (choice l r) p = or_is (last l p) (last r p) (last_is l p) (last_is r p)
last_is (star t) p = last_is t p
last_is (plus t) p = last_is t p
last_is (maybe t) p = last_is t p

-- each last position of one part is followed by each first position of another
link_is : (l r : Tree) (p q : ℕ) → T (last l p && first r q) ↔ (Last l p × First r q)
link_is l r p q = and_is (last l p) (first r q) (last_is l p) (first_is r q)

pub follow_is : (t : Tree) (p q : ℕ) → T (follow t p q) ↔ Follow t p q
follow_is (atom n) p q = (λ h. h, λ h. h)
follow_is (join l r) p q =
    or_is (follow l p q || follow r p q) (last l p && first r q)
    (or_is (follow l p q) (follow r p q) (follow_is l p q) (follow_is r p q)) (link_is l r p q)
follow_is (choice l r) p q = or_is (follow l p q) (follow r p q) (follow_is l p q) (follow_is r p q)
follow_is (star t) p q = or_is (follow t p q) (last t p && first t q) (follow_is t p q) (link_is t t p q)
follow_is (plus t) p q = or_is (follow t p q) (last t p && first t q) (follow_is t p q) (link_is t t p q)
follow_is (maybe t) p q = follow_is t p q
