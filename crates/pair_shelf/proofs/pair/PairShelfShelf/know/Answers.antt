use Rattle.std.proofs.Common.{take, ◌∙◌}
use Rattle.pair_shelf.proofs.Keep.{pairs_look_up}
use Rattle.pair_shelf.proofs.pair.PairShelfShelf.know.Goals as goal

pub returns : goal.returns
returns c = let s = c.args.self.now in c.find_step.ensures ∙ pairs_look_up (take s.len s.steps) c.args.place c.args.class
