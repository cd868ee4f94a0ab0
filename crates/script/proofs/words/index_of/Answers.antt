use Rattle.std.proofs.Common.{◌∙◌, rules}
use borrow.Author.Tests.{tests}
use Rattle.std.specs.Prelude.{◌==◌}
use Rattle.std.proofs.lemmas.Iterator.{YieldsList-from_slice}
use Rattle.std.proofs.lemmas.Iterator.Search.{position_from_yields_List}
use Rattle.script.proofs.Cuts.{first_or_all}
use Rattle.script.proofs.words.index_of.Goals as goal

pub returns-clause-is : goal.returns-clause-is
returns-clause-is c =
    let b = c.args.byte in
    let e = position_from_yields_List (λ x. x == b) _ _ c.position.result c.position.ensures.ran (YieldsList-from_slice c.args.text.now cc) (λ x r q k. search (rules, tests)) in
    c.unwrap_or.ensures ∙ first_or_all c.args.byte c.args.text.now c.position.result e
