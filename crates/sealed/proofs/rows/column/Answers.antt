use Rattle.std.proofs.Common.{sym, ap, ◌∙◌, arith}
use Rattle.sets.specs.Positions.{holds}
use Rattle.alphabet.proofs.Passing.{none_below, with_one, without_one}
use Rattle.sealed.specs.Tables.{column}
use Rattle.sealed.proofs.Linking.{column_all}
use Rattle.sealed.proofs.rows.column.Goals as goal
use Rattle.sealed.proofs.rows.column.Goals.{then-has, else-has}

pub loop-p-init : goal.loop-p-init
loop-p-init c = c.empty-set.ensures ∙ none_below (column c.args.rows.now c.args.q)

pub loop-p-preserved : goal.loop-p-preserved
loop-p-preserved c =
    let f = column c.args.rows.now c.args.q in
    elim c.if-has.branch [
      | then-has w ↦
          with_one f c.loop-p.p (holds c.loop-p.set) (holds c.if-has.set) c.loop-p-test.true (sym c.has.ensures ∙ w.if-has.true) c.loop-p.invariant (ap holds w.set-is ∙ w.with-set.ensures)
      | else-has w ↦ ap holds w.set-is ∙ without_one f c.loop-p.p (holds c.loop-p.set) (sym c.has.ensures ∙ w.if-has.false) c.loop-p.invariant
    ]

pub returns : goal.returns
returns c = c.loop-p.invariant ∙ column_all c.args.rows.now c.args.q c.loop-p.p (omega arith) c.told-rows
