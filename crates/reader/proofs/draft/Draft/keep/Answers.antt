use Rattle.std.proofs.Common.{arith}
use Rattle.reader.proofs.Tables.{one_more, none_more}
use Rattle.reader.proofs.draft.Draft.keep.Goals as goal

pub returns-then-self-lt-MOST_ATOMS : goal.returns-then-self-lt-MOST_ATOMS
returns-then-self-lt-MOST_ATOMS g c = one_more 63 c.args.self.now.atoms c.args.self.now.tests c.args.test c.if-self-lt-MOST_ATOMS.true (omega arith)

pub returns-else-self-lt-MOST_ATOMS : goal.returns-else-self-lt-MOST_ATOMS
returns-else-self-lt-MOST_ATOMS g c = none_more 63 c.args.self.now.atoms c.args.self.now.tests c.args.test c.if-self-lt-MOST_ATOMS.false (omega arith) (omega arith)
