-- The clock's way, twice round at most, chooses as `Chosen` says.
use Rattle.std.proofs.Common.{◌≡◌, ℕ, zero, suc, ◌+◌, ◌-◌, ◌<◌, ◌≤◌, Bool, true, false, cond, not, ◌&&◌, eqb, ltb, ◌⊎◌, Some, None, Option, sym, refl, ap, ◌∙◌, subst, inl, inr, ⊎_elim, zero-add, arith}
use mathlib.Core.Path.{fun_ext}
use Rattle.std.proofs.lemmas.Bool.{cases_Bool, cases_eq, cases_lt, lt-ltb, le-ltb, eq-eqb, ne_eqb, both_ways, and_parts}
use Rattle.std.proofs.lemmas.Bool.Decides.{nat_tests}
use Rattle.std.proofs.lemmas.Option.{none-some}
use Rattle.sets.specs.Members.{Members, except, less}
use Rattle.memory.specs.Live.{May}
use Rattle.policies.specs.Round.{next, others, Way, way, going, round, only}
use Rattle.policies.specs.Chosen.{ahead, cleared, NearestUnmarked, NearestOfAll, Chosen}
use Rattle.policies.proofs.Ways.{past, cleared as mark_cleared, stopped, ended, others_may, may_others, only_is, only_has}

-- one place further
ahead_here : (at : ℕ) → ahead at at ≡ 0
ahead_here at = grind (arith, nat_tests)

ahead_next : (at k : ℕ) → at < 64 → k < 64 → (k ≡ at → ⊥) → ahead at k ≡ suc (ahead (next at) k)
ahead_next at k ha hk ne = grind (arith, nat_tests)

ahead_round : (at : ℕ) → at < 64 → ahead (next at) at ≡ 63
ahead_round at ha = grind (arith, nat_tests)

ahead_low : (at k : ℕ) → at < 64 → k < 64 → ahead at k < 64
ahead_low at k ha hk = grind (arith, nat_tests)

next_low : (at : ℕ) → next at < 64
next_low at = grind (arith, nat_tests)

-- the first n places from a place on, once round at most: the nearest unmarked one among them is found, or they all had marks
pub record Found (may marks : Members) (at n p : ℕ) (w : Way) : Type 0 where
  pub is : w.found ≡ Some p
  pub near : ahead at p < n
  pub law : NearestUnmarked may marks at p w.marks

pub record Passed (may marks : Members) (at n : ℕ) (w : Way) : Type 0 where
  pub is : w.found ≡ None
  pub marked : (k : ℕ) → may k ≡ true → ahead at k < n → marks k ≡ true
  pub left : w.marks ≡ cleared may marks at n

abbrev pub Low : Members → Type 0
Low may = (k : ℕ) → may k ≡ true → k < 64

abbrev Once : Members → Members → ℕ → ℕ → Way → Type 0
Once may marks at n w = ((p : ℕ) × Found may marks at n p w) ⊎ Passed may marks at n w

off : (b : Bool) → (b && not true) ≡ false
off true = refl
off false = refl

on : (b : Bool) → (b && not false) ≡ b
on true = refl
on false = refl

not_one : (may : Members) (marks : Members) (hand d k : ℕ) → may k ≡ false → cleared may marks hand d k ≡ marks k
not_one may marks hand d k e = rw e (on (marks k))

cleared_none : (may marks : Members) (at : ℕ) → marks ≡ cleared may marks at 0
cleared_none may marks at = fun_ext (λ k. sym (ap (λ x. marks k && not (may k && x)) (le-ltb (ahead at k) 0 (omega arith)) ∙ plain (marks k) (may k)))
  where
    plain : (x y : Bool) → (x && not (y && false)) ≡ x
    plain true true = refl
    plain true false = refl
    plain false y = refl

suc_ltb : (a b : ℕ) → ltb (suc a) (suc b) ≡ ltb a b
suc_ltb a b = grind (arith, nat_tests)

-- one place is passed, and its mark cleared or kept
cleared_other : (may marks : Members) (at d k : ℕ) → Low may → at < 64 → (k ≡ at → ⊥) → cleared may marks (next at) d k ≡ cleared may marks at (suc d) k
cleared_other may marks at d k low ha ne =
    ⊎_elim
    (λ (e : may k ≡ true). ap (λ x. marks k && not (may k && x)) (sym (ap (λ x. ltb x (suc d)) (ahead_next at k ha (low k e) ne) ∙ suc_ltb (ahead (next at) k) d)))
    (λ (e : may k ≡ false). not_one may marks (next at) d k e ∙ sym (not_one may marks at (suc d) k e))
    (cases_Bool (may k))

cleared_past : (may marks : Members) (at d : ℕ) → Low may → at < 64 → may at ≡ false → cleared may marks (next at) d ≡ cleared may marks at (suc d)
cleared_past may marks at d low ha e =
    fun_ext
    (λ k.
    ⊎_elim
    (λ (q : k ≡ at). let m : may k ≡ false = ap may q ∙ e in not_one may marks (next at) d k m ∙ sym (not_one may marks at (suc d) k m))
    (λ (q : k ≡ at → ⊥). cleared_other may marks at d k low ha q)
    (cases_eq k at))

except_other : (marks : Members) (at k : ℕ) → (k ≡ at → ⊥) → except marks at k ≡ marks k
except_other marks at k ne = ap (λ x. marks k && not x) (ne_eqb k at ne) ∙ on (marks k)

cleared_one : (may marks : Members) (at d : ℕ) → Low may → at < 64 → may at ≡ true → cleared may (except marks at) (next at) d ≡ cleared may marks at (suc d)
cleared_one may marks at d low ha e =
    fun_ext
    (λ k.
    ⊎_elim
    (λ (q : k ≡ at). subst (λ (x : ℕ). cleared may (except marks at) (next at) d x ≡ cleared may marks at (suc d) x) (sym q) here)
    (λ (q : k ≡ at → ⊥). ap (λ x. x && not (may k && ltb (ahead (next at) k) d)) (except_other marks at k q) ∙ cleared_other may marks at d k low ha q)
    (cases_eq k at))
  where
    gone : (x y : Bool) → ((x && not true) && y) ≡ false
    gone true y = refl
    gone false y = refl

    here : cleared may (except marks at) (next at) d at ≡ cleared may marks at (suc d) at
    here =
        ap (λ x. (marks at && not x) && not (may at && ltb (ahead (next at) at) d)) (eq-eqb at at refl)
        ∙ gone (marks at) (not (may at && ltb (ahead (next at) at) d))
        ∙ sym (ap (λ x. marks at && not (x && ltb (ahead at at) (suc d))) e
        ∙ ap (λ x. marks at && not (ltb x (suc d))) (ahead_here at)
        ∙ ap (λ x. marks at && not x) (lt-ltb 0 (suc d) (omega arith))
        ∙ off (marks at))

-- a place nearer than another, seen from one place further
shifted : (at k : ℕ) → at < 64 → k < 64 → (k ≡ at → ⊥) → (d : ℕ) → ahead at k < suc d → ahead (next at) k < d
shifted at k ha hk ne d h = omega (arith, ahead_next at k ha hk ne)

-- a place is passed without a look at its mark
once_past : (may marks : Members) (at n : ℕ) (w : Way) → Low may → at < 64 → suc n ≤ 64 → may at ≡ false → Once may marks (next at) n w → Once may marks at (suc n) w
once_past may marks at n w low ha hn off = ⊎_elim (λ f. inl (f.0, found f.0 f.1)) (λ g. inr (passed g))
  where
    other : (k : ℕ) → may k ≡ true → k ≡ at → ⊥
    other k m e = both_ways (may k) (ap may e ∙ off) m

    found : (p : ℕ) → Found may marks (next at) n p w → Found may marks at (suc n) p w
    found p f =
        let m : may p ≡ true = f.law.allowed in
        let e : ahead at p ≡ suc (ahead (next at) p) = ahead_next at p ha (low p m) (other p m) in
        record {
          is = f.is;
          near = omega (arith, f.near);
          law = record {
            allowed = m;
            unmarked = f.law.unmarked;
            nearer = λ k q (h : ahead at k < ahead at p). f.law.nearer k q (shifted at k ha (low k q) (other k q) (ahead (next at) p) (omega arith));
            rest = f.law.rest ∙ cleared_past may marks at (ahead (next at) p) low ha off ∙ ap (cleared may marks at) (sym e);
          };
        }

    passed : Passed may marks (next at) n w → Passed may marks at (suc n) w
    passed g = record {
      is = g.is;
      marked = λ k q (h : ahead at k < suc n). g.marked k q (shifted at k ha (low k q) (other k q) n h);
      left = g.left ∙ cleared_past may marks at n low ha off;
    }

-- a place that may be chosen is passed, and its mark cleared
once_cleared : (may marks : Members) (at n : ℕ) (w : Way) → Low may → at < 64 → suc n ≤ 64 → may at ≡ true → marks at ≡ true → Once may (except marks at) (next at) n w → Once may marks at (suc n) w
once_cleared may marks at n w low ha hn m marked = ⊎_elim (λ f. inl (f.0, found f.0 f.1)) (λ g. inr (passed g))
  where
    still : (k : ℕ) → except marks at k ≡ true → marks k ≡ true
    still k e = (and_parts (marks k) (not (eqb k at)) e).0

    seen : (k d : ℕ) → may k ≡ true → ahead at k < suc d → ((ahead (next at) k < d) → except marks at k ≡ true) → marks k ≡ true
    seen k d q h by =
        ⊎_elim
        (λ (e : k ≡ at). ap marks e ∙ marked)
        (λ (e : k ≡ at → ⊥). still k (by (shifted at k ha (low k q) e d h)))
        (cases_eq k at)

    found : (p : ℕ) → Found may (except marks at) (next at) n p w → Found may marks at (suc n) p w
    found p f =
        let q : may p ≡ true = f.law.allowed in
        let ne : p ≡ at → ⊥ = λ (e : p ≡ at). let z : ahead (next at) p ≡ 63 = ap (ahead (next at)) e ∙ ahead_round at ha in omega (arith, f.near) in
        let e : ahead at p ≡ suc (ahead (next at) p) = ahead_next at p ha (low p q) ne in
        record {
          is = f.is;
          near = omega (arith, f.near);
          law = record {
            allowed = q;
            unmarked = sym (except_other marks at p ne) ∙ f.law.unmarked;
            nearer = λ k r (h : ahead at k < ahead at p). seen k (ahead (next at) p) r (omega arith) (λ l. f.law.nearer k r l);
            rest = f.law.rest ∙ cleared_one may marks at (ahead (next at) p) low ha m ∙ ap (cleared may marks at) (sym e);
          };
        }

    passed : Passed may (except marks at) (next at) n w → Passed may marks at (suc n) w
    passed g = record {
      is = g.is;
      marked = λ k r (h : ahead at k < suc n). seen k n r h (λ l. g.marked k r l);
      left = g.left ∙ cleared_one may marks at n low ha m;
    }

once_here : (may marks : Members) (at n : ℕ) → may at ≡ true → marks at ≡ false → Once may marks at (suc n) (way (Some at) marks)
once_here may marks at n m u =
    inl (
      at,
      record {
        is = refl;
        near = omega (arith, ahead_here at);
        law = record {
          allowed = m;
          unmarked = u;
          nearer = λ k q (h : ahead at k < ahead at at). absurd (omega (arith, ahead_here at));
          rest = cleared_none may marks at ∙ ap (cleared may marks at) (sym (ahead_here at));
        };
      },
    )

pub once : (may : Members) (n : ℕ) (marks : Members) (at : ℕ) → Low may → at < 64 → n ≤ 64 → Once may marks at n (going may n marks at)
once may zero marks at low ha hn =
    subst (λ (w : Way). Once may marks at 0 w) (sym (ended may marks at))
    (inr (record { is = refl; marked = λ k q (h : ahead at k < 0). absurd (omega arith); left = cleared_none may marks at }))
once may (suc n) marks at low ha hn =
    ⊎_elim
    (λ (m : may at ≡ true).
    ⊎_elim
    (λ (b : marks at ≡ true).
    subst (λ (w : Way). Once may marks at (suc n) w) (sym (mark_cleared may n marks at m b))
    (once_cleared may marks at n (going may n (except marks at) (next at)) low ha hn m b (once may n (except marks at) (next at) low (next_low at) (omega arith))))
    (λ (b : marks at ≡ false). subst (λ (w : Way). Once may marks at (suc n) w) (sym (stopped may n marks at m b)) (once_here may marks at n m b))
    (cases_Bool (marks at)))
    (λ (m : may at ≡ false).
    subst (λ (w : Way). Once may marks at (suc n) w) (sym (past may n marks at m))
    (once_past may marks at n (going may n marks (next at)) low ha hn m (once may n marks (next at) low (next_low at) (omega arith))))
    (cases_Bool (may at))

-- a way is one way after another
far : ℕ → ℕ → ℕ
far zero at = at
far (suc a) at = far a (next at)

add_suc_left : (a b : ℕ) → suc a + b ≡ suc (a + b)
add_suc_left a b = omega arith

found_first : (may : Members) (a b : ℕ) (marks : Members) (at p : ℕ) → (going may a marks at).found ≡ Some p → going may (a + b) marks at ≡ going may a marks at
found_first may zero b marks at p e = absurd (none-some p (sym (ap (λ w. w.found) (ended may marks at)) ∙ e))
found_first may (suc a) b marks at p e =
    ap (λ n. going may n marks at) (add_suc_left a b)
    ∙ ⊎_elim
    (λ (m : may at ≡ true).
    ⊎_elim
    (λ (q : marks at ≡ true).
    mark_cleared may (a + b) marks at m q
    ∙ found_first may a b (except marks at) (next at) p (sym (ap (λ w. w.found) (mark_cleared may a marks at m q)) ∙ e)
    ∙ sym (mark_cleared may a marks at m q))
    (λ (q : marks at ≡ false). stopped may (a + b) marks at m q ∙ sym (stopped may a marks at m q))
    (cases_Bool (marks at)))
    (λ (m : may at ≡ false).
    past may (a + b) marks at m
    ∙ found_first may a b marks (next at) p (sym (ap (λ w. w.found) (past may a marks at m)) ∙ e)
    ∙ sym (past may a marks at m))
    (cases_Bool (may at))

none_first : (may : Members) (a b : ℕ) (marks : Members) (at : ℕ) → (going may a marks at).found ≡ None → going may (a + b) marks at ≡ going may b (going may a marks at).marks (far a at)
unfolding far
none_first may zero b marks at e =
    ap (λ n. going may n marks at) (zero-add b) ∙ ap (λ m. going may b m at) (sym (ap (λ w. w.marks) (ended may marks at)))
none_first may (suc a) b marks at e =
    ap (λ n. going may n marks at) (add_suc_left a b)
    ∙ ⊎_elim
    (λ (m : may at ≡ true).
    ⊎_elim
    (λ (q : marks at ≡ true).
    mark_cleared may (a + b) marks at m q
    ∙ none_first may a b (except marks at) (next at) (sym (ap (λ w. w.found) (mark_cleared may a marks at m q)) ∙ e)
    ∙ ap (λ w. going may b w.marks (far a (next at))) (sym (mark_cleared may a marks at m q)))
    (λ (q : marks at ≡ false). absurd (none-some at (sym e ∙ ap (λ w. w.found) (stopped may a marks at m q))))
    (cases_Bool (marks at)))
    (λ (m : may at ≡ false).
    past may (a + b) marks at m
    ∙ none_first may a b marks (next at) (sym (ap (λ w. w.found) (past may a marks at m)) ∙ e)
    ∙ ap (λ w. going may b w.marks (far a (next at))) (sym (past may a marks at m)))
    (cases_Bool (may at))

far_is : (a at : ℕ) → at < 64 → a ≤ 64 → far a at ≡ cond (ltb (at + a) 64) (at + a) (at + a - 64)
unfolding far
far_is zero at ha h = grind (arith, nat_tests)
far_is (suc a) at ha h = far_is a (next at) (next_low at) (omega arith) ∙ step a at ha h
  where
    step : (a at : ℕ) → at < 64 → suc a ≤ 64 → cond (ltb (next at + a) 64) (next at + a) (next at + a - 64) ≡ cond (ltb (at + suc a) 64) (at + suc a) (at + suc a - 64)
    step a at ha h = grind (arith, nat_tests)

all_round : (at : ℕ) → at < 64 → far 64 at ≡ at
all_round at h = far_is 64 at h (omega arith) ∙ (rw (le-ltb (at + 64) 64 (omega arith)) (omega arith))

-- once round every mark of a place that may be chosen is cleared
cleared_all : (may marks : Members) (hand : ℕ) → Low may → hand < 64 → cleared may marks hand 64 ≡ less marks may
cleared_all may marks hand low hh =
    fun_ext
    (λ k.
    ⊎_elim
    (λ (e : may k ≡ true). ap (λ x. marks k && not (may k && x)) (lt-ltb (ahead hand k) 64 (ahead_low hand k hh (low k e))) ∙ ap (λ x. marks k && not x) (both (may k)))
    (λ (e : may k ≡ false). not_one may marks hand 64 k e ∙ sym (ap (λ x. marks k && not x) e ∙ on (marks k)))
    (cases_Bool (may k)))
  where
    both : (b : Bool) → (b && true) ≡ b
    both true = refl
    both false = refl

cleared_again : (may marks : Members) (hand d : ℕ) → cleared may (less marks may) hand d ≡ less marks may
cleared_again may marks hand d = fun_ext (λ k. again (marks k) (may k) (ltb (ahead hand k) d))
  where
    again : (x y z : Bool) → ((x && not y) && not (y && z)) ≡ (x && not y)
    again true true z = refl
    again true false z = refl
    again false y z = refl

unmarked_now : (may marks : Members) (k : ℕ) → may k ≡ true → less marks may k ≡ false
unmarked_now may marks k e = ap (λ x. marks k && not x) e ∙ off (marks k)

-- the second round
second : (may marks : Members) (hand : ℕ) (w : Way) → Low may → hand < 64 → ((k : ℕ) → may k ≡ true → marks k ≡ true) → Once may (less marks may) hand 64 w → Chosen may marks hand w.found w.marks
second may marks hand w low hh marked =
    ⊎_elim
    (λ f. subst (λ (o : Option ℕ). Chosen may marks hand o w.marks) (sym f.1.is) (inr (of_all f.0 f.1.law)))
    (λ g. subst (λ (o : Option ℕ). Chosen may marks hand o w.marks) (sym g.is) (nothing g))
  where
    of_all : (p : ℕ) → NearestUnmarked may (less marks may) hand p w.marks → NearestOfAll may marks hand p w.marks
    of_all p u = record {
      allowed = u.allowed;
      marked = marked;
      nearest = λ k q.
          ⊎_elim
          (λ (h : ahead hand k < ahead hand p). absurd (both_ways (less marks may k) (unmarked_now may marks k q) (u.nearer k q h)))
          (λ (h : ahead hand p ≤ ahead hand k). h)
          (cases_lt (ahead hand k) (ahead hand p));
      rest = u.rest ∙ cleared_again may marks hand (ahead hand p);
    }

    nothing : Passed may (less marks may) hand 64 w → ((k : ℕ) → may k ≡ false) × (w.marks ≡ marks)
    nothing g =
        let no_one : (k : ℕ) → may k ≡ false =
        λ k. ⊎_elim (λ (q : may k ≡ true). absurd (both_ways (less marks may k) (unmarked_now may marks k q) (g.marked k q (ahead_low hand k hh (low k q))))) (λ (q : may k ≡ false). q) (cases_Bool (may k))
        in
        (no_one, g.left ∙ cleared_again may marks hand 64 ∙ fun_ext (λ k. ap (λ x. marks k && not x) (no_one k) ∙ on (marks k)))

pub round_chosen : (may marks : Members) (hand : ℕ) → Low may → hand < 64 → Chosen may marks hand (round may marks hand).found (round may marks hand).marks
round_chosen may marks hand low hh =
    ⊎_elim
    (λ f. subst (λ (w : Way). Chosen may marks hand w.found w.marks) (sym (found_first may 64 64 marks hand f.0 f.1.is))
    (subst (λ (o : Option ℕ). Chosen may marks hand o (going may 64 marks hand).marks) (sym f.1.is) (inl f.1.law)))
    (λ g.
    let left : (going may 64 marks hand).marks ≡ less marks may = g.left ∙ cleared_all may marks hand low hh in
    let e : round may marks hand ≡ going may 64 (less marks may) hand =
    none_first may 64 64 marks hand g.is ∙ ap (λ m. going may 64 m (far 64 hand)) left ∙ ap (going may 64 (less marks may)) (all_round hand hh)
    in
    subst (λ (w : Way). Chosen may marks hand w.found w.marks) (sym e)
    (second may marks hand (going may 64 (less marks may) hand) low hh (λ k q. g.marked k q (ahead_low hand k hh (low k q))) (once may 64 (less marks may) hand low hh (omega arith))))
    (once may 64 marks hand low hh (omega arith))

-- what the trait asks of the choice
allowed_one : (may marks : Members) (hand p : ℕ) (left : Members) → Chosen may marks hand (Some p) left → may p ≡ true
allowed_one may marks hand p left = ⊎_elim (λ u. u.allowed) (λ a. a.allowed)

pub choice_within : (live marks : Members) (held : Option ℕ) (hand k : ℕ) (o : Option ℕ) (left : Members) → Chosen (others live held) marks hand o left → only o k ≡ true → May live held k
choice_within live marks held hand k None left e h = absurd (both_ways false refl h)
choice_within live marks held hand k (Some p) left e h =
    subst (λ (x : ℕ). May live held x) (sym (only_is p k h)) (others_may live held p (allowed_one (others live held) marks hand p left e))

pub choice_some : (live marks : Members) (held : Option ℕ) (hand k : ℕ) (o : Option ℕ) (left : Members) → Low live → Chosen (others live held) marks hand o left → May live held k → (j : ℕ) × (only o j ≡ true)
choice_some live marks held hand k None left low e h = absurd (both_ways (others live held k) (e.0 k) (may_others live held k h))
choice_some live marks held hand k (Some p) left low e h =
    (p, only_has p (low p (others_may live held p (allowed_one (others live held) marks hand p left e)).0))

pub others_low : (live : Members) (held : Option ℕ) → Low live → Low (others live held)
others_low live held low k h = low k (others_may live held k h).0
