-- The rows of a set's members, united from the lowest member on.
use Rattle.std.proofs.Common.{◌≡◌, ℕ, zero, suc, ◌+◌, ◌<◌, ◌≤◌, Bool, false, ◌&&◌, ◌||◌, List, sym, ap, ◌∙◌, ⊎_elim, add-one, arith}
use mathlib.Core.Bool.{or-false}
use Rattle.std.proofs.lemmas.Bool.{cases_eq}
use Rattle.sets.specs.Members.{none, either}
use Rattle.sets.specs.Lowest.{LowestFrom}
use Rattle.sets.specs.Positions.{holds, width, PositionSet}
use Rattle.sets.proofs.Known.{members_low}
use Rattle.theory.specs.Masks.{some}
use Rattle.sealed.specs.Tables.{entry}

-- those below n, with the members' rows in hand
abbrev meet : PositionSet → List PositionSet → ℕ → ℕ → Bool
meet s rows q p = holds s p && entry rows p q

pub record United (s : PositionSet) (rows : List PositionSet) (n : ℕ) (all : PositionSet) : Type 0 where
  pub low : n ≤ 64
  pub is : (q : ℕ) → holds all q ≡ some n (meet s rows q)

pub some_none : (f : ℕ → Bool) (m n : ℕ) → m ≤ n → ((k : ℕ) → m ≤ k → k < n → f k ≡ false) → some n f ≡ some m f
unfolding some
some_none f m zero l h = let e : m ≡ 0 = omega arith in ap (λ k. some k f) (sym e)
some_none f m (suc n) l h =
    ⊎_elim (λ (e : m ≡ suc n). ap (λ k. some k f) (sym e))
    (λ (d : m ≡ suc n → ⊥). ap (λ b. some n f || b) (h n (omega arith) (omega arith)) ∙ or-false (some n f) ∙ some_none f m n (omega arith) (λ k u v. h k u (omega arith)))
    (cases_eq m (suc n))

some_next : (f : ℕ → Bool) (n : ℕ) → some (n + 1) f ≡ (some n f || f n)
unfolding some
some_next f n = ap (λ k. some k f) (add-one n)

pub united_none : (s : PositionSet) (rows : List PositionSet) (all : PositionSet) → holds all ≡ none → United s rows 0 all
unfolding some
united_none s rows all e = record { low = omega arith; is = λ q. ap (λ f. f q) e }

skipped : (s : PositionSet) (rows : List PositionSet) (q k : ℕ) → holds s k ≡ false → meet s rows q k ≡ false
skipped s rows q k h = ap (λ b. b && entry rows k q) h

pub united_more : (s : PositionSet) (rows : List PositionSet) (n p : ℕ) (all new r : PositionSet) → p < 64 → LowestFrom (holds s) n p → (λ q. holds r q) ≡ entry rows p → holds new ≡ either (holds all) (holds r) → United s rows n all → United s rows (p + 1) new
united_more s rows n p all new r l w e h u =
    record {
      low = omega arith;
      is = λ q.
          ap (λ f. f q) h ∙ ap (λ b. b || holds r q) (u.is q ∙ sym (some_none (meet s rows q) n p w.low (λ k a b. skipped s rows q k (w.lower k a b))))
          ∙ ap (λ b. some p (meet s rows q) || b) (ap (λ f. f q) e ∙ sym (ap (λ b. b && entry rows p q) w.member))
          ∙ sym (some_next (meet s rows q) p);
    }

pub united_all : (s : PositionSet) (rows : List PositionSet) (n : ℕ) (all : PositionSet) → ((k : ℕ) → n ≤ k → holds s k ≡ false) → United s rows n all → (q : ℕ) → holds all q ≡ some width (meet s rows q)
united_all s rows n all h u q = u.is q ∙ sym (some_none (meet s rows q) n 64 u.low (λ k a b. skipped s rows q k (h k a)))

pub member_low : (s : PositionSet) (n p : ℕ) → LowestFrom (holds s) n p → p < 64
member_low s n p w = members_low s p w.member
