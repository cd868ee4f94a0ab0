use Rattle.std.proofs.Common.{ap, ◌∙◌}
use Rattle.std.proofs.lemmas.List.{take_all}
use Rattle.byte_classes.specs.Tables.{row}
use Rattle.byte_classes.proofs.Rows.{row_more}
use Rattle.byte_classes.proofs.table.row.Goals as goal

pub loop-test-preserved : goal.loop-test-preserved
loop-test-preserved c =
    row_more c.deref-test-items.result.now c.loop-test.test-index c.args.byte c.loop-test.digits c.from.result _ c.loop-test-test.true c.loop-test.invariant.0 c.loop-test.invariant.1
    (c.from.ensures ∙ ap mir.Val.bool_byte c.passes.ensures)

pub returns : goal.returns
returns c =
    c.loop-test.invariant.0
    ∙ ap (λ ts. row ts c.args.byte) (take_all c.loop-test.test-index c.deref-test-items.result.now c.loop-test-test.false ∙ c.deref-test-items.ensures.0)
