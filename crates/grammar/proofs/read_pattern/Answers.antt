use Rattle.std.proofs.Common.{rules}
use Rattle.grammar.proofs.Lawful.{understood}
use Rattle.grammar.proofs.read_pattern.Goals as goal

pub returns-clause-law : goal.returns-clause-law
returns-clause-law c = understood c.args.items.now c.args.text_length _ _ (search rules)
