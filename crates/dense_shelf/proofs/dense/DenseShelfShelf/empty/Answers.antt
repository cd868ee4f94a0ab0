use Rattle.std.proofs.Common.{sym, ap, ◌∙◌}
use Rattle.memory.specs.Steps.{size}
use Rattle.memory.proofs.Sizes.{size_nothing}
use Rattle.dense_shelf.proofs.Cells.{dense_empty}
use Rattle.dense_shelf.proofs.dense.DenseShelfShelf.empty.Goals as goal

pub invariant_of-self-2 : goal.invariant_of-self-2
invariant_of-self-2 c = let r = c.self.inside.rows in sym (ap (size r.places) (dense_empty r.bytes.now r.places) ∙ size_nothing r.places)
