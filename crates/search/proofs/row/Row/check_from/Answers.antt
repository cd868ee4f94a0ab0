use Rattle.search.proofs.Ends.{past_end}
use Rattle.search.proofs.row.Row.check_from.Goals as goal

pub returns-then-from-self : goal.returns-then-from-self
returns-then-from-self g c = rw c.refused.ensures (record { inside = tt; refused = past_end c.args.self.now.symbols.now c.args.from c.args.self.now.short c.if-from-self.true })
