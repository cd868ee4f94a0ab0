use Rattle.std.proofs.Common.{refl}
use Rattle.sealed.proofs.Showing.{shows_none}
use Rattle.sealed.proofs.tables.Tables.none.Goals as goal

pub returns : goal.returns
returns c = (refl, (shows_none c.empty-none.result c.empty-none.ensures).0, (shows_none c.empty-none.result c.empty-none.ensures).1)
