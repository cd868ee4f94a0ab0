use Rattle.search.proofs.Ends.{too_long}
use Rattle.search.proofs.row.Row.new.Goals as goal

pub returns-then-symbols-gt-LONGEST : goal.returns-then-symbols-gt-LONGEST
returns-then-symbols-gt-LONGEST g c = rw c.refused.ensures (record { same = tt; refused = too_long c.args.symbols.now c.if-symbols-gt-LONGEST.true })
