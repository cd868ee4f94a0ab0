use Rattle.std.proofs.Common.{◌≡◌, ◌+◌, ◌-◌, ◌*◌, ◌≤◌, length, drop, refl, mul-le-mul_left, length-take, length-drop, arith}
use Rattle.dense_shelf.proofs.Cells.{filled_wide, filled_behind}
use Rattle.dense_shelf.proofs.rows.Rows.widen.Goals as goal

row_len : (c : goal.After-self-then-class-self-2-1) → length c.fill.new.self ≡ (c.args.class + 1) * c.args.self.now.places - c.args.self.now.used.classes * c.args.self.now.places
row_len c =
    let r = c.args.self.now in
    let l : r.places * (c.args.class + 1) ≤ r.places * 256 = mul-le-mul_left r.places (omega arith) in
    omega (arith, c.fill.ensures.len, r.fit, length-take ((c.args.class + 1) * r.places - r.used.classes * r.places) (drop (r.used.classes * r.places) r.bytes.now), length-drop (r.used.classes * r.places) r.bytes.now)

pub returns-then-class-self-clause-untouched : goal.returns-then-class-self-clause-untouched
returns-then-class-self-clause-untouched c =
    let r = c.args.self.now in
    record { lender = refl; places = refl; rest = filled_behind r.bytes.now r.places r.used.classes (c.args.class + 1) c.fill.new.self (omega arith) (omega arith) r.fit (row_len c) }

pub returns-then-class-self-clause-map : goal.returns-then-class-self-clause-map
returns-then-class-self-clause-map c =
    let r = c.args.self.now in
    filled_wide r.bytes.now r.places r.used.classes (c.args.class + 1) c.fill.new.self (omega arith) (omega arith) r.few r.fit (row_len c)
    (λ k l. c.fill.ensures.clones k 0 (omega (arith, c.fill.ensures.len)) refl)
