use Rattle.std.proofs.Common.{◌≡◌, ℕ, ◌+◌, ◌*◌, ◌<◌, ◌≤◌, List, length, drop, get_or, set, sym, refl, ap, ◌∙◌, subst, length-take, length-drop, arith}
use lib.Seq.{set-get_or}
use Rattle.sets.specs.Members.{none, plus}
use Rattle.dense_shelf.specs.Rows.{dense}
use Rattle.dense_shelf.proofs.Cells.{cells_fit, with_row, row_get, row_set, row_same, row_fits, length-row}
use Rattle.dense_shelf.proofs.Sweeps.{OneInv, swept_none, one_then, one_else, clean_row, carry}
use Rattle.dense_shelf.proofs.rows.Rows.forget_to.Goals as goal
use Rattle.dense_shelf.proofs.rows.Rows.forget_to.Goals.{then-b-place, else-b-place}

pub loop-byte-init : goal.loop-byte-init
loop-byte-init c =
    let r = c.args.self.now in
    let a : ℕ = c.args.class * r.places in
    subst (λ (bs : List ℕ). OneInv r.bytes.now r.places r.used.classes c.args.place c.args.class 0 bs 0)
    (sym (row_same r.bytes.now a (a + r.places) (omega arith) (row_fits r.places r.used.classes c.args.class (length r.bytes.now) c.requires.in_use.0 r.used.low r.fit)))
    ((swept_none r.places (plus 64 none c.args.place) (dense r.bytes.now r.places r.used.classes), (λ q (h : q < 0). absurd (omega arith)), refl), c.requires.gone, omega arith)

pub loop-byte-preserved : goal.loop-byte-preserved
loop-byte-preserved c =
    let r = c.args.self.now in
    let n : ℕ = r.places in
    let w : ℕ = r.used.classes in
    let p : ℕ = c.args.place in
    let q : ℕ = c.loop-byte.byte-index in
    let a : ℕ = c.args.class * n in
    let old : List ℕ = r.bytes.now in
    let row : List ℕ = c.loop-byte.row in
    let bs : List ℕ = with_row old a (a + n) row in
    let within : a + n ≤ length old = row_fits n w c.args.class (length old) c.requires.in_use.0 r.used.low r.fit in
    let size : length row ≡ n = omega (arith, c.loop-byte.auto.row, length-take n (drop a old), length-drop a old) in
    let hq : q < length row = omega (arith, c.loop-byte.auto.row, c.loop-byte-test.true) in
    let read : get_or bs (a + q) 0 ≡ get_or row q 0 = row_get old a (a + n) row q (omega arith) hq in
    let len : w * n ≤ length bs = omega (arith, length-row old a (a + n) row (omega arith) within (omega arith), cells_fit n w (length old) r.used.low r.fit) in
    elim c.if-b-place.branch [
      | then-b-place v ↦
          carry (OneInv old n w p c.args.class (q + 1)) (set bs (a + q) 255) _ (c.loop-byte.gone + 1) _ (ap (λ x. with_row old a (a + n) (set row q x)) v.stays-is ∙ row_set old a (a + n) row q 255 (omega arith) hq) v.gone-is
          (one_then old bs n w p c.args.class q c.loop-byte.gone c.loop-byte.invariant c.requires.in_use.0 (omega arith) c.requires.in_use.1 r.used.low r.few len (read ∙ v.if-b-place.true))
      | else-b-place v ↦
          carry (OneInv old n w p c.args.class (q + 1)) bs _ c.loop-byte.gone _ (ap (λ x. with_row old a (a + n) (set row q x)) v.stays-is ∙ ap (with_row old a (a + n)) (set-get_or row q 0)) v.gone-is
          (one_else old bs n w p c.args.class q c.loop-byte.gone c.loop-byte.invariant c.requires.in_use.0 (omega arith) (λ e. v.if-b-place.false (sym read ∙ e)))
    ]

pub returns : goal.returns
returns c =
    let r = c.args.self.now in
    let a : ℕ = c.args.class * r.places in
    let within : a + r.places ≤ length r.bytes.now = row_fits r.places r.used.classes c.args.class (length r.bytes.now) c.requires.in_use.0 r.used.low r.fit in
    let size : length c.loop-byte.row ≡ r.places = omega (arith, c.loop-byte.auto.row, length-take r.places (drop a r.bytes.now), length-drop a r.bytes.now) in
    record {
      untouched = record { lender = refl; places = refl; rest = c.loop-byte.invariant.0.2 };
      used = refl;
      swept = c.loop-byte.invariant.0.0;
      row = clean_row (with_row r.bytes.now a (a + r.places) c.loop-byte.row) r.places r.used.classes (plus 64 none c.args.place) c.args.class (λ q h. c.loop-byte.invariant.0.1 q (omega (arith, c.loop-byte-test.false)));
    }
