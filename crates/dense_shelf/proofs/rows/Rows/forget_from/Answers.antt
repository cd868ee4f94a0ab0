use Rattle.std.proofs.Common.{ℕ, ◌<◌, length, get_or, set, sym, refl, subst, arith}
use Rattle.sets.specs.Members.{none, plus}
use Rattle.dense_shelf.specs.Rows.{dense}
use Rattle.dense_shelf.specs.Sweep.{Swept}
use Rattle.dense_shelf.proofs.Cells.{behind_set, cell_low, cells_fit}
use Rattle.dense_shelf.proofs.Sweeps.{from_gone}
use Rattle.dense_shelf.proofs.rows.Rows.forget_from.Goals as goal

pub returns-then-self-at-clause-untouched : goal.returns-then-self-at-clause-untouched
returns-then-self-at-clause-untouched c =
    let r = c.args.self.now in
    record {
      lender = refl;
      places = refl;
      rest = behind_set r.bytes.now r.places r.used.classes c.cell-at.result 255 (omega (arith, c.cell-at.ensures.is, cell_low r.places r.used.classes c.args.class c.args.place (omega arith) (omega arith))) r.used.low;
    }

pub returns-then-self-at-clause-swept : goal.returns-then-self-at-clause-swept
returns-then-self-at-clause-swept c =
    let r = c.args.self.now in
    subst (λ (i : ℕ). Swept r.places (plus 64 none c.args.place) (dense r.bytes.now r.places r.used.classes) (dense (set r.bytes.now i 255) r.places r.used.classes) 1) (sym c.cell-at.ensures.is)
    (from_gone r.bytes.now r.places r.used.classes c.args.place c.args.class (omega arith) (omega arith) r.used.low r.few
    (cells_fit r.places r.used.classes (length r.bytes.now) r.used.low r.fit) (subst (λ (i : ℕ). get_or r.bytes.now i 0 < r.places) c.cell-at.ensures.is c.if-self-at.true)).0
