use Rattle.std.proofs.Common.{◌≡◌, ℕ, ◌+◌, ◌*◌, ◌<◌, ◌≤◌, Bool, ◌&&◌, ◌||◌, ltb, List, length, drop, get_or, set, sym, refl, ap, ◌∙◌, subst, length-take, length-drop, arith}
use lib.Seq.{set-get_or}
use Rattle.sets.specs.Places.{member}
use Rattle.dense_shelf.specs.Rows.{dense}
use Rattle.dense_shelf.proofs.Cells.{cells_fit, with_row, row_get, row_set, row_same, row_fits, length-row}
use Rattle.dense_shelf.proofs.Sweeps.{RowInv, swept_none, swept_few, row_then, row_else, clean_row, carry}
use Rattle.dense_shelf.proofs.rows.Rows.forget_row.Goals as goal
use Rattle.dense_shelf.proofs.rows.Rows.forget_row.Goals.{then-doomed, else-doomed}

pub overflow_add-gone : goal.overflow_add-gone
overflow_add-gone c = omega (arith, swept_few c.args.self.now.places (member c.args.places) _ _ c.loop-p.gone c.args.self.now.few c.loop-p.invariant.0)

pub loop-p-init : goal.loop-p-init
loop-p-init c =
    let r = c.args.self.now in
    let a : ℕ = c.args.class * r.places in
    subst (λ (bs : List ℕ). RowInv r.bytes.now r.places r.used.classes (member c.args.places) c.args.class 0 bs 0)
    (sym (row_same r.bytes.now a (a + r.places) (omega arith) (row_fits r.places r.used.classes c.args.class (length r.bytes.now) c.requires r.used.low r.fit)))
    (swept_none r.places (member c.args.places) (dense r.bytes.now r.places r.used.classes), (λ q (h : q < 0). absurd (omega arith)), refl)

pub loop-p-preserved : goal.loop-p-preserved
loop-p-preserved c =
    let r = c.args.self.now in
    let n : ℕ = r.places in
    let w : ℕ = r.used.classes in
    let m : ℕ → Bool = member c.args.places in
    let p : ℕ = c.loop-p.p in
    let a : ℕ = c.args.class * n in
    let old : List ℕ = r.bytes.now in
    let row : List ℕ = c.loop-p.row in
    let bs : List ℕ = with_row old a (a + n) row in
    let within : a + n ≤ length old = row_fits n w c.args.class (length old) c.requires r.used.low r.fit in
    let size : length row ≡ n = omega (arith, c.loop-p.auto.row, length-take n (drop a old), length-drop a old) in
    let hp : p < length row = omega (arith, c.loop-p.auto.row, c.loop-p-test.true) in
    let read : get_or bs (a + p) 0 ≡ get_or row p 0 = row_get old a (a + n) row p (omega arith) hp in
    let len : w * n ≤ length bs = omega (arith, length-row old a (a + n) row (omega arith) within (omega arith), cells_fit n w (length old) r.used.low r.fit) in
    elim c.if-doomed.branch [
      | then-doomed v ↦
          carry (RowInv old n w m c.args.class (p + 1)) (set bs (a + p) 255) _ (c.loop-p.gone + 1) _ (ap (with_row old a (a + n)) v.row-is ∙ row_set old a (a + n) row p 255 (omega arith) hp) v.gone-is
          (row_then old bs n w m c.args.class p c.loop-p.gone c.loop-p.invariant c.requires (omega arith) r.used.low r.few len (ap (λ b. ltb b n && (m p || m b)) read ∙ sym c.doomed.ensures ∙ v.if-doomed.true))
      | else-doomed v ↦
          carry (RowInv old n w m c.args.class (p + 1)) bs _ c.loop-p.gone _ (ap (with_row old a (a + n)) (v.row-is ∙ set-get_or row p 0)) v.gone-is
          (row_else old bs n w m c.args.class p c.loop-p.gone c.loop-p.invariant c.requires (omega arith) (ap (λ b. ltb b n && (m p || m b)) read ∙ sym c.doomed.ensures ∙ v.if-doomed.false))
    ]

pub returns : goal.returns
returns c =
    let r = c.args.self.now in
    let a : ℕ = c.args.class * r.places in
    let within : a + r.places ≤ length r.bytes.now = row_fits r.places r.used.classes c.args.class (length r.bytes.now) c.requires r.used.low r.fit in
    let size : length c.loop-p.row ≡ r.places = omega (arith, c.loop-p.auto.row, length-take r.places (drop a r.bytes.now), length-drop a r.bytes.now) in
    record {
      untouched = record { lender = refl; places = refl; rest = c.loop-p.invariant.2 };
      used = refl;
      swept = c.loop-p.invariant.0;
      row = clean_row (with_row r.bytes.now a (a + r.places) c.loop-p.row) r.places r.used.classes (member c.args.places) c.args.class (λ q h. c.loop-p.invariant.1 q (omega (arith, c.loop-p-test.false)));
    }
