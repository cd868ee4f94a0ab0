-- The step rule from the tables.
use Rattle.std.proofs.Common.{◌≡◌, ℕ, zero, suc, ◌<◌, ◌≤◌, Bool, true, false, ◌&&◌, ◌||◌, T, eqb, List, get_or, Some, None, Decides, Option, sym, refl, ap, ◌∙◌, ⊎_elim, arith}
use mathlib.Core.Path.{fun_ext}
use mathlib.Core.Bool.{and_comm, or_assoc, or-false}
use Rattle.std.proofs.lemmas.Bool.{false≢true, and_parts, and_from, cases_Bool, cases_lt, ne_eqb, cond-false, lt-ltb}
use Rattle.pattern.specs.declared.Code.{Code}
use Rattle.pattern.specs.Tree.{Tree}
use Rattle.pattern.specs.Codes.{tree}
use Rattle.sets.specs.Members.{Members, plus, shared, below, Meet}
use Rattle.sets.specs.Positions.{holds, width, PositionSet}
use Rattle.theory.specs.Positions.{Positions, positions, FromOne, follow}
use Rattle.theory.specs.Masks.{some, ahead_set, back_set, common}
use Rattle.theory.proofs.Masks.{some_is}
use Rattle.theory.proofs.Places.{follow_is}
use Rattle.theory.proofs.Numbers.{follow_in, no_zero}
use Rattle.theory.proofs.Answers.{numbered}
use Rattle.sets.proofs.Known.{members_low, members_high}
use Rattle.sealed.specs.declared.plan.Plan.{Plan}
use Rattle.alphabet.specs.Sets.{blank}
use Rattle.sealed.specs.Tables.{entry, following, preceding}
use Rattle.sealed.specs.Plans.{is_member, codes_of, tree_of, positions_of}
use Rattle.sealed.proofs.Uniting.{some_none}

to_test : (b : Bool) → b ≡ true → T b
to_test true e = tt
to_test false e = let z : ◌≡◌ {A = ℕ} 0 1 = cc in absurd (omega arith)

no : (b : Bool) → (T b → ⊥) → b ≡ false
no b h = ⊎_elim (λ (e : b ≡ true). absurd (h (to_test b e))) (λ (e : b ≡ false). e) (cases_Bool b)

-- 0 is no atom: nothing follows it within a word, and it follows nothing
none_behind : (o : Option Tree) → FromOne o → (q : ℕ) → (positions o).follow 0 q ≡ false
none_behind None h q = refl
none_behind (Some t) h q = no (follow t 0 q) (λ x. no_zero t h (follow_in t 0 q ((follow_is t 0 q).0 x)).0)

none_before : (o : Option Tree) → FromOne o → (p : ℕ) → (positions o).follow p 0 ≡ false
none_before None h p = refl
none_before (Some t) h p = no (follow t p 0) (λ x. no_zero t h (follow_in t p 0 ((follow_is t p 0).0 x)).1)

-- a row of tests of which the first differs
some_first : (n : ℕ) (f g : ℕ → Bool) (b : Bool) → 0 < n → f 0 ≡ b → g 0 ≡ false → ((k : ℕ) → 0 < k → f k ≡ g k) → some n f ≡ (b || some n g)
unfolding some
some_first zero f g b l e z h = absurd (omega arith)
some_first (suc zero) f g b l e z h = e ∙ sym (or-false b) ∙ sym (ap (λ x. b || x) z)
some_first (suc (suc n)) f g b l e z h =
    ap (λ x. x || f (suc n)) (some_first (suc n) f g b (omega arith) e z h) ∙ or_assoc b (some (suc n) g) (f (suc n)) ∙ ap (λ x. b || (some (suc n) g || x)) (h (suc n) (omega arith))

and_false : (x y : Bool) → y ≡ false → (x && y) ≡ false
and_false true y e = e
and_false false y e = refl

wide : 0 < width
wide = omega arith

ahead_split : (o : Option Tree) → FromOne o → (S : Members) (q : ℕ) → some width (λ p. S p && following (positions o) p q) ≡ (S 0 && (positions o).first q || some width (λ p. S p && (positions o).follow p q))
ahead_split o one S q =
    some_first width (λ p. S p && following (positions o) p q) (λ p. S p && (positions o).follow p q) (S 0 && (positions o).first q) wide refl (and_false (S 0) ((positions o).follow 0 q) (none_behind o one q))
    (λ k l. ap (λ x. S k && x) (cond-false (eqb k 0) ((positions o).first q) ((positions o).follow k q) (ne_eqb k 0 (λ e. omega arith))))

back_split : (o : Option Tree) → FromOne o → (S : Members) (p : ℕ) → some width (λ q. S q && preceding (positions o) q p) ≡ ((positions o).last p && S 0 || some width (λ q. S q && (positions o).follow p q))
back_split o one S p =
    some_first width (λ q. S q && preceding (positions o) q p) (λ q. S q && (positions o).follow p q) ((positions o).last p && S 0) wide (and_comm (S 0) ((positions o).last p)) (and_false (S 0) ((positions o).follow p 0) (none_before o one p))
    (λ k l. ap (λ x. S k && x) (cond-false (eqb k 0) ((positions o).last p) ((positions o).follow p k) (ne_eqb k 0 (λ e. omega arith))))

some_cong : (n : ℕ) (f g : ℕ → Bool) → ((k : ℕ) → f k ≡ g k) → some n f ≡ some n g
some_cong n f g h = ap (some n) (fun_ext h)

module _ (codes : List Code) (rows : List PositionSet) (set passing united result : PositionSet) (is : (q : ℕ) → holds united q ≡ some width (λ p. holds set p && entry rows p q)) where
  abbrev P : Positions
  P = positions (tree codes)

  pub ahead_rule : ((p q : ℕ) → entry rows p q ≡ following P p q) → holds result ≡ shared (holds united) (holds passing) → holds result ≡ ahead_set width is_member P (holds set) passing
  ahead_rule shows e =
      e ∙ fun_ext (λ q.
      and_comm (holds united q) (holds passing q)
      ∙ ap (λ x. holds passing q && x) (is q ∙ some_cong width _ _ (λ p. ap (λ x. holds set p && x) (shows p q)) ∙ ahead_split (tree codes) (numbered codes) (holds set) q))

  pub back_rule : ((q p : ℕ) → entry rows q p ≡ preceding P q p) → (s : PositionSet) → holds s ≡ shared (holds united) (holds passing) → holds result ≡ plus width (holds s) 0 → holds result ≡ back_set width is_member P (holds set) passing
  back_rule shows s e f =
      f ∙ fun_ext (λ p.
      ap (λ x. x && eqb p 0 || holds s p) (lt-ltb 0 width wide)
      ∙ ap (λ x. eqb p 0 || x) (ap (λ g. g p) e ∙ and_comm (holds united p) (holds passing p)
      ∙ ap (λ x. holds passing p && x) (is p ∙ some_cong width _ _ (λ q. ap (λ x. holds set q && x) (shows q p)) ∙ back_split (tree codes) (numbered codes) (holds set) p)))

-- what passes counts only where a position can stand
narrow : (f : Members) (s : Members) (x : Bool) (q : ℕ) → s ≡ shared (below width) f → (width ≤ q → x ≡ false) → (s q && x) ≡ (f q && x)
narrow f s x q e h =
    ⊎_elim (λ (l : q < width). ap (λ g. g q && x) e ∙ ap (λ b. b && f q && x) (lt-ltb q width l)) (λ (l : width ≤ q). and_false (s q) x (h l) ∙ sym (and_false (f q) x (h l))) (cases_lt q width)

nowhere : (f : ℕ → Bool) → ((k : ℕ) → f k ≡ false) → some width f ≡ false
unfolding some
nowhere f h = some_none f 0 width (omega arith) (λ k _ _. h k)

ahead_nowhere : (plan : Plan) (S : Members) (q : ℕ) → width ≤ q → (S 0 && (positions_of plan).first q || some width (λ p. S p && (positions_of plan).follow p q)) ≡ false
ahead_nowhere plan S q l =
    sym (ahead_split (tree_of plan) (numbered (codes_of plan)) S q)
    ∙ nowhere (λ p. S p && following (positions_of plan) p q) (λ p. and_false (S p) (following (positions_of plan) p q) (sym (plan.right.1 p q) ∙ members_high (get_or plan.tables.next p blank) q l))

back_nowhere : (plan : Plan) (S : Members) (p : ℕ) → width ≤ p → ((positions_of plan).last p && S 0 || some width (λ q. S q && (positions_of plan).follow p q)) ≡ false
back_nowhere plan S p l =
    sym (back_split (tree_of plan) (numbered (codes_of plan)) S p)
    ∙ nowhere (λ q. S q && preceding (positions_of plan) q p) (λ q. and_false (S q) (preceding (positions_of plan) q p) (sym (plan.right.2 q p) ∙ members_high (get_or plan.tables.prior q blank) p l))

-- the step by a set that passes is the step by what passes
module _ {Sym : Type 0} (plan : Plan) (S : Members) (s : PositionSet) (passes : ℕ → Sym → Bool) (t : Sym) (e : holds s ≡ shared (below width) (λ q. passes q t)) where
  pub ahead_by : (r : Members) → r ≡ ahead_set width is_member (positions_of plan) S s → r ≡ ahead_set width passes (positions_of plan) S t
  ahead_by r h = h ∙ fun_ext (λ q. narrow (λ k. passes k t) (holds s) (S 0 && (positions_of plan).first q || some width (λ p. S p && (positions_of plan).follow p q)) q e (ahead_nowhere plan S q))

  pub back_by : (r : Members) → r ≡ back_set width is_member (positions_of plan) S s → r ≡ back_set width passes (positions_of plan) S t
  back_by r h = h ∙ fun_ext (λ p.
      ap (λ x. eqb p 0 || x) (narrow (λ k. passes k t) (holds s) ((positions_of plan).last p && S 0 || some width (λ q. S q && (positions_of plan).follow p q)) p e (back_nowhere plan S p)))

from_test : (b : Bool) → T b → b ≡ true
from_test true h = refl
from_test false h = absurd h

-- two sets meet below the width, where all their members lie
pub meets_common : (r : Bool) (s : PositionSet) (g h : Members) → g ≡ h → Decides r (Meet (holds s) g) → r ≡ common width (holds s) h
meets_common r s g h e d = go r d
  where
    Met : Type 0
    Met = Meet (holds s) g

    to : Met → common width (holds s) h ≡ true
    to m =
        from_test (common width (holds s) h)
        ((some_is width (λ p. holds s p && h p)).1 (m.0, members_low s m.0 m.1, to_test (holds s m.0 && h m.0) (and_from (holds s m.0) (h m.0) m.1 (ap (λ f. f m.0) (sym e) ∙ m.2))))

    back : common width (holds s) h ≡ true → Met
    back c =
        let w = (some_is width (λ p. holds s p && h p)).0 (to_test (common width (holds s) h) c) in
        let v = and_parts (holds s w.0) (h w.0) (from_test (holds s w.0 && h w.0) w.2) in
        (w.0, v.0, ap (λ f. f w.0) e ∙ v.1)

    go : (b : Bool) → Decides b Met → b ≡ common width (holds s) h
    go true d = sym (to (d.0 refl))
    go false d = ⊎_elim (λ (c : common width (holds s) h ≡ true). absurd (false≢true (d.1 (back c)))) (λ c. sym c) (cases_Bool (common width (holds s) h))
