use Rattle.std.proofs.Common.{ℕ, refl, ◌∙◌, subst, arith}
use Rattle.sets.specs.Places.{member}
use Rattle.dense_shelf.specs.Kept.{map_in}
use Rattle.dense_shelf.specs.Sweep.{Swept}
use Rattle.dense_shelf.proofs.Sweeps.{rows_none, rows_more, all_clean, swept_few, untouched_more}
use Rattle.dense_shelf.proofs.rows.Rows.forget_rows.Goals as goal

pub forget_row-gone-requires : goal.forget_row-gone-requires
forget_row-gone-requires c = omega (arith, c.loop-class.invariant.used)

pub overflow_add-gone : goal.overflow_add-gone
overflow_add-gone c =
    omega (
      arith,
      swept_few c.args.self.now.places (member c.args.places) _ _ c.loop-class.gone c.args.self.now.few c.loop-class.invariant.rows.swept,
      swept_few c.loop-class.self.places (member c.args.places) _ _ c.forget_row-gone.result c.loop-class.self.few c.forget_row-gone.ensures.swept,
    )

pub loop-class-init : goal.loop-class-init
loop-class-init c =
    let r = c.args.self.now in
    record { same = record { lender = refl; places = refl; rest = refl }; used = refl; rows = rows_none r.places (member c.args.places) (map_in r) }

pub loop-class-preserved : goal.loop-class-preserved
loop-class-preserved c =
    let r = c.args.self.now in
    let s = c.loop-class.self in
    let t = c.forget_row-gone.new.self in
    let i = c.loop-class.invariant in
    let e = c.forget_row-gone.ensures in
    record {
      same = untouched_more r s t i.same e.untouched;
      used = e.used ∙ i.used;
      rows = rows_more r.places (member c.args.places) (map_in r) (map_in s) (map_in t) c.loop-class.class c.loop-class.gone c.forget_row-gone.result i.rows
          (subst (λ (n : ℕ). Swept n (member c.args.places) (map_in s) (map_in t) c.forget_row-gone.result) i.same.places e.swept) e.row;
    }

pub returns : goal.returns
returns c =
    let r = c.args.self.now in
    let s = c.loop-class.self in
    let i = c.loop-class.invariant in
    record {
      untouched = i.same;
      map = all_clean s r.places (member c.args.places) (map_in r) c.loop-class.class c.loop-class.gone i.rows (omega (arith, i.used));
      answer = i.rows.swept.count;
    }
