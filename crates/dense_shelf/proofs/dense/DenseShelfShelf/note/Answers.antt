use Rattle.std.proofs.Common.{◌≡◌, ◌+◌, ◌*◌, sym, ap, ◌∙◌, arith}
use Rattle.memory.specs.Steps.{size}
use Rattle.memory.proofs.Sizes.{size_noted, notable_parts}
use Rattle.dense_shelf.specs.Kept.{map_in}
use Rattle.dense_shelf.proofs.dense.DenseShelfShelf.note.Goals as goal

pub invariant_of-self : goal.invariant_of-self
invariant_of-self c =
    let r = c.self.inside.rows in
    let e = c.if-new.ensures in
    let q = notable_parts r.places (256 * r.places) (map_in r) c.args.place c.args.class c.args.target (sym e.answer) in
    let z : size c.note-new.new.self.places (map_in c.note-new.new.self) ≡ size r.places (map_in r) + 1 =
    ap (λ n. size n (map_in c.note-new.new.self)) e.untouched.places ∙ ap (size r.places) e.map ∙ size_noted r.places (map_in r) c.args.place c.args.class c.args.target q.place q.class q.lacks
    in
    omega (arith, c.self.invariant, q.room, r.few, c.saturating_add-self-inside.ensures)
