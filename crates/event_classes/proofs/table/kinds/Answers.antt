use Rattle.std.proofs.Common.{rules}
use Rattle.event_classes.specs.Tables.{KindRight}
use Rattle.alphabet.proofs.FromFn.{each_made}
use Rattle.event_classes.proofs.table.kinds.Goals as goal

pub returns : goal.returns
returns c = λ k d l. each_made _ (KindRight c.args.cuts.now) _ (λ i y q w. search rules) c.from_fn.result 256 c.from_fn.ensures.items k d l
