use Rattle.std.proofs.Common.{sym, arith}
use Rattle.pair_shelf.specs.Bounded.{table_size}
use Rattle.pair_shelf.proofs.pair.PairShelfShelf.count.Goals as goal

pub returns : goal.returns
returns c = let s = c.args.self.now in sym (table_size s.steps s.len (omega arith) s.ok)
