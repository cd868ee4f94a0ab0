use Rattle.std.proofs.Common.{arith}
use Rattle.event_classes.specs.Own.{event_tests}
use Rattle.event_classes.proofs.Inserting.{kind_between}
use Rattle.event_classes.proofs.answers.EventCutsAlphabet.class_of.Goals as goal

pub rank_between-rank-requires : goal.rank_between-rank-requires
rank_between-rank-requires c =
    let t = c.args.self.now.table in
    let h = c.args.self.now.right in
    let e = c.args.symbol in
    let k = kind_between (event_tests c.args.self.now) t.cuts t.kinds _ c.code.result e.kind e.value h.0 h.2 c.code.ensures (omega arith) (omega arith) in
    record { above = k.0; below = k.1; within = k.2 }
