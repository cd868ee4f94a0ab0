use Rattle.std.proofs.Common.{◌≡◌, ℕ, ◌+◌, ◌≤◌, Bool, true, false, cond, refl, sym, ◌∙◌, subst, arith}
use mir.Val.{bool_byte}
use Rattle.sets.specs.Members.{none, plus}
use Rattle.dense_shelf.specs.Kept.{map_in}
use Rattle.dense_shelf.specs.Sweep.{Swept}
use Rattle.dense_shelf.proofs.Sweeps.{rows_none, rows_more, all_clean, swept_few, swept_more, untouched_more}
use Rattle.dense_shelf.proofs.rows.Rows.forget_one.Goals as goal

-- a flag as a number
one_is : (b : Bool) → bool_byte b ≡ cond b 1 0
one_is true = refl
one_is false = refl

one_few : (b : Bool) → bool_byte b ≤ 1
one_few true = omega arith
one_few false = omega arith

pub overflow_add-gone : goal.overflow_add-gone
overflow_add-gone c =
    omega (
      arith,
      one_few c.forget_from.result,
      swept_few c.forget_from.new.self.places (plus 64 none c.args.place) _ _ c.forget_to.result c.forget_from.new.self.few c.forget_to.ensures.swept,
    )

pub overflow_add-gone-in-loop-class : goal.overflow_add-gone-in-loop-class
overflow_add-gone-in-loop-class c =
    omega (
      arith,
      one_few c.forget_from.result,
      swept_few c.args.self.now.places (plus 64 none c.args.place) _ _ c.loop-class.gone c.args.self.now.few c.loop-class.invariant.rows.swept,
      swept_few c.forget_from.new.self.places (plus 64 none c.args.place) _ _ c.forget_to.result c.forget_from.new.self.few c.forget_to.ensures.swept,
    )

pub loop-class-init : goal.loop-class-init
loop-class-init c =
    let r = c.args.self.now in
    record { same = record { lender = refl; places = refl; rest = refl }; used = refl; rows = rows_none r.places (plus 64 none c.args.place) (map_in r) }

pub loop-class-preserved : goal.loop-class-preserved
loop-class-preserved c =
    let r = c.args.self.now in
    let s = c.loop-class.self in
    let t = c.forget_from.new.self in
    let u = c.forget_to.new.self in
    let m : ℕ → Bool = plus 64 none c.args.place in
    let i = c.loop-class.invariant in
    let e = c.forget_from.ensures in
    let f = c.forget_to.ensures in
    let st = untouched_more r s t i.same e.untouched in
    let one : Swept r.places m (map_in s) (map_in t) c.from.result =
    subst (λ (k : ℕ). Swept r.places m (map_in s) (map_in t) k) (sym (c.from.ensures ∙ one_is c.forget_from.result)) (subst (λ (n : ℕ). Swept n m (map_in s) (map_in t) (cond c.forget_from.result 1 0)) i.same.places e.swept)
    in
    let two : Swept r.places m (map_in t) (map_in u) c.forget_to.result = subst (λ (n : ℕ). Swept n m (map_in t) (map_in u) c.forget_to.result) st.places f.swept in
    record {
      same = untouched_more r t u st f.untouched;
      used = f.used ∙ e.used ∙ i.used;
      rows = rows_more r.places m (map_in r) (map_in s) (map_in u) c.loop-class.class c.loop-class.gone (c.from.result + c.forget_to.result) i.rows
          (swept_more r.places m (map_in s) (map_in t) (map_in u) c.from.result c.forget_to.result one two) f.row;
    }

pub returns : goal.returns
returns c =
    let r = c.args.self.now in
    let i = c.loop-class.invariant in
    record {
      untouched = i.same;
      map = all_clean c.loop-class.self r.places (plus 64 none c.args.place) (map_in r) c.loop-class.class c.loop-class.gone i.rows (omega (arith, i.used));
      answer = i.rows.swept.count;
    }
