use Rattle.std.proofs.Common.{sym, ap, ◌∙◌}
use Rattle.memory.specs.Steps.{size}
use Rattle.memory.proofs.Sizes.{size_nothing}
use Rattle.dense_shelf.specs.Rows.{dense}
use Rattle.dense_shelf.proofs.Cells.{dense_empty}
use Rattle.dense_shelf.proofs.dense.DenseShelf.new.Goals as goal

pub invariant_of-result : goal.invariant_of-result
invariant_of-result c =
    let r = c.new.result in
    sym (ap (λ w. size r.places (dense r.bytes.now r.places w)) c.new.ensures.used ∙ ap (size r.places) (dense_empty r.bytes.now r.places) ∙ size_nothing r.places)
