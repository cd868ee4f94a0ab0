use Rattle.std.proofs.Common.{rules}
use Rattle.script.proofs.Ends.{cut, cut_all}
use Rattle.script.proofs.words.trimmed.Goals as goal

pub returns-in-Some : goal.returns-in-Some
returns-in-Some c = cut c.args.text.now c.in-Some.last (search rules) (search rules) (search rules)

pub returns-in-None : goal.returns-in-None
returns-in-None c = cut_all c.args.text.now (search rules)
