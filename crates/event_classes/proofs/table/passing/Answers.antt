use Rattle.std.proofs.Common.{[], ◌∷◌, ◌++◌, get_or, ap, ◌∙◌, rules}
use Rattle.symbols.specs.Tests.{passes_code}
use Rattle.event_classes.specs.Tables.{passed_code}
use Rattle.event_classes.proofs.Passing.{filled_first, filled_more}
use Rattle.event_classes.proofs.table.passing.Goals as goal

pub loop-code-init : goal.loop-code-init
loop-code-init c =
    filled_first c.args.tests.now.items c.args.cuts.now c.passed.result _ (c.push.ensures.items ∙ ap (λ xs. xs ++ c.passed.result ∷ []) c.new-passing.ensures)
    (c.passed.ensures (λ t. passes_code t 0) (λ t x k. search rules))

pub loop-code-preserved : goal.loop-code-preserved
loop-code-preserved c =
    let ts = c.args.tests.now.items in
    let i = c.loop-code.code-index in
    filled_more ts c.args.cuts.now i c.passed-in-loop-code.result c.loop-code.passing.items _ c.loop-code.invariant c.push-in-loop-code.ensures.items
    (c.passed-in-loop-code.ensures (λ t. passes_code t (get_or c.codes-code-items.result.now i 0)) (λ t x k. search rules) ∙ ap (λ cs. passed_code ts (get_or cs i 0)) c.codes-code-items.ensures.is)
