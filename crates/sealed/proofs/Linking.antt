-- Rows joined one by one.
use Rattle.std.proofs.Common.{◌≡◌, ℕ, ◌+◌, ◌<◌, ◌≤◌, true, false, ◌&&◌, ◌||◌, ltb, ◌≢◌, List, length, get_or, set, replicate, sym, refl, ap, ◌∙◌, ⊎_elim, arith, length-set, get_or-set_other, get_or-set_same, below_more}
use mathlib.Core.Path.{fun_ext}
use mathlib.Core.Bool.{or-false}
use Rattle.std.proofs.lemmas.Bool.{cases_lt, lt-ltb, and_right}
use Rattle.std.proofs.lemmas.List.{get_or-replicate, get_or_past, length-replicate}
use Rattle.sets.specs.BitSets.{members}
use Rattle.sets.specs.Lowest.{LowestFrom}
use Rattle.sets.specs.Members.{Members, none, either, shared, below}
use Rattle.sets.specs.Positions.{holds, PositionSet}
use Rattle.sets.proofs.Known.{members_high}
use Rattle.sets.proofs.Sets.{zero_mask}
use Rattle.theory.specs.Seal.{link}
use Rattle.alphabet.specs.Sets.{blank}
use Rattle.sealed.specs.Tables.{entry, column}

-- the rows below p are linked, and those from p on are as they were
pub record Upto (last first : Members) (old new : List PositionSet) (p : ℕ) : Type 0 where
  pub long : length new ≡ 64
  pub done : (k : ℕ) → k < p → holds (get_or new k blank) ≡ (λ q. entry old k q || last k && first q)
  pub left : (k : ℕ) → p ≤ k → get_or new k blank ≡ get_or old k blank

pub upto_none : (last first : Members) (old : List PositionSet) → length old ≡ 64 → Upto last first old old 0
upto_none last first old e = record { long = e; done = λ k l. absurd (omega arith); left = λ k l. refl }

pub upto_yes : (last first : Members) (old new : List PositionSet) (p : ℕ) (s : PositionSet) → p < 64 → last p ≡ true → holds s ≡ either (holds (get_or new p blank)) first → Upto last first old new p → Upto last first old (set new p s) (p + 1)
upto_yes last first old new p s l h e u =
    let here : holds s ≡ (λ q. entry old p q || last p && first q) =
    e ∙ ap (λ r. either (holds r) first) (u.left p (omega arith)) ∙ fun_ext (λ q. ap (λ b. entry old p q || b && first q) (sym h)) in
    record {
      long = length-set new p s ∙ u.long;
      done =
          below_more (λ k. holds (get_or (set new p s) k blank) ≡ (λ q. entry old k q || last k && first q)) p
          (λ k v. let ne : k ≢ p = omega arith in rw get_or-set_other (u.done k v))
          (let m : p < length new = omega (arith, u.long) in rw get_or-set_same here);
      left = λ k v. let ne : k ≢ p = omega arith in get_or-set_other new p k s blank ne ∙ u.left k (omega arith);
    }

-- rows between that `last` lacks are as they were
upto_skip : (last first : Members) (old new : List PositionSet) (n p : ℕ) → n ≤ p → ((k : ℕ) → n ≤ k → k < p → last k ≡ false) → Upto last first old new n → Upto last first old new p
upto_skip last first old new n p l h u =
    record {
      long = u.long;
      done = λ k v.
          ⊎_elim (λ (b : k < n). u.done k b)
          (λ (b : n ≤ k). ap holds (u.left k b) ∙ fun_ext (λ q. sym (ap (λ x. entry old k q || x && first q) (h k b v) ∙ or-false (entry old k q))))
          (cases_lt k n);
      left = λ k v. u.left k (omega arith);
    }

pub upto_no : (last first : Members) (old new : List PositionSet) (p : ℕ) → last p ≡ false → Upto last first old new p → Upto last first old new (p + 1)
upto_no last first old new p h u = upto_skip last first old new p (p + 1) (omega arith) (λ k a b. let e : k ≡ p = omega arith in ap last e ∙ h) u

pub upto_more : (last first : Members) (old new : List PositionSet) (n p : ℕ) (s : PositionSet) → p < 64 → LowestFrom last n p → holds s ≡ either (holds (get_or new p blank)) first → Upto last first old new n → Upto last first old (set new p s) (p + 1)
upto_more last first old new n p s l w e u = upto_yes last first old new p s l w.member e (upto_skip last first old new n p w.low w.lower u)

wide : (s : PositionSet) (k : ℕ) → 64 ≤ k → holds s k ≡ false
wide s k l = members_high s k l

pub upto_all : (last first : Members) (old new : List PositionSet) (n : ℕ) → ((k : ℕ) → n ≤ k → last k ≡ false) → Upto last first old new n → entry new ≡ link last first (entry old)
upto_all last first old new n h u =
    fun_ext (λ k. (upto_skip last first old new n (n + k + 1) (omega arith) (λ j a b. h j a) u).done k (omega arith))

pub blank_none : (k : ℕ) → holds blank k ≡ false
unfolding members
blank_none k = ap (λ f. f k) (zero_mask 64)

-- a table of empty rows
pub entry_none : (s : PositionSet) → holds s ≡ none → entry (replicate 64 s) ≡ (λ p q. false)
entry_none s e =
    fun_ext (λ p.
    ⊎_elim (λ (l : p < 64). ap holds (get_or-replicate 64 p s blank l) ∙ e)
    (λ (l : 64 ≤ p). fun_ext (λ q. ap (λ r. holds r q) (get_or_past (replicate 64 s) p blank (rw (length-replicate 64 s) l)) ∙ blank_none q))
    (cases_lt p 64))

pub past_none : (rows : List PositionSet) (p q : ℕ) → length rows ≤ p → entry rows p q ≡ false
past_none rows p q l = ap (λ r. holds r q) (get_or_past rows p blank l) ∙ blank_none q

-- below 64 are all the rows
pub column_all : (rows : List PositionSet) (q n : ℕ) → n ≡ 64 → length rows ≡ 64 → shared (below n) (column rows q) ≡ column rows q
column_all rows q n e m =
    fun_ext (λ p.
    ⊎_elim (λ (l : p < n). ap (λ x. x && entry rows p q) (lt-ltb p n l))
    (λ (l : n ≤ p). and_right (ltb p n) (entry rows p q) (past_none rows p q (omega arith)) ∙ sym (past_none rows p q (omega arith)))
    (cases_lt p n))

-- the columns as rows
pub transposed_all : (rows columns : List PositionSet) → length columns ≡ 64 → ((k : ℕ) → k < 64 → holds (get_or columns k blank) ≡ column rows k) → (p q : ℕ) → entry columns q p ≡ entry rows p q
transposed_all rows columns m h p q =
    ⊎_elim (λ (l : q < 64). ap (λ f. f p) (h q l)) (λ (l : 64 ≤ q). past_none columns q p (omega arith) ∙ sym (wide (get_or rows p blank) q l)) (cases_lt q 64)
