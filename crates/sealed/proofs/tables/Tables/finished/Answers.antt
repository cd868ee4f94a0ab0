use Rattle.std.proofs.Common.{rules}
use Rattle.sealed.proofs.Showing.{shows_whole}
use Rattle.sealed.proofs.tables.Tables.finished.Goals as goal

pub returns : goal.returns
returns c = shows_whole c.args.part c.args.follow.now c.transposed-prior.result (search rules) (search rules) c.transposed-prior.ensures
