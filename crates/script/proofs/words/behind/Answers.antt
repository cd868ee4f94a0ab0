use Rattle.std.proofs.Common.{sym, arith, rules}
use Rattle.std.proofs.lemmas.List.{take_rest, drop_all}
use Rattle.script.proofs.Cuts.{first_at, first_nowhere}
use Rattle.script.proofs.words.behind.Goals as goal

pub returns-in-Some : goal.returns-in-Some
returns-in-Some c =
    let at = first_at c.args.byte c.args.text.now c.in-Some.at (search rules) (search rules) (search rules) in
    rw (take_rest, at)

pub returns-in-None : goal.returns-in-None
returns-in-None c =
    let at = first_nowhere c.args.byte c.args.text.now (search rules) in
    rw at (sym (drop_all _ c.args.text.now (omega arith)))
