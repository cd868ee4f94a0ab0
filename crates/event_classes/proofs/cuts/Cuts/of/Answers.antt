use Rattle.std.proofs.Common.{length, ap, arith}
use Rattle.event_classes.specs.Cuts.{cuts}
use Rattle.event_classes.specs.Cutting.{cut_length}
use Rattle.event_classes.proofs.Inserting.{cut_more}
use Rattle.event_classes.proofs.cuts.Cuts.of.Goals as goal

pub cut_at-requires-in-loop-test : goal.cut_at-requires-in-loop-test
cut_at-requires-in-loop-test c = omega (arith, ap length c.cut_at.ensures, cut_length, c.deref-test-items.ensures.1)

pub loop-test-preserved : goal.loop-test-preserved
loop-test-preserved c =
    let ts = c.deref-test-items.result.now in
    let l = c.loop-test in
    record {
      few = omega (arith, ap length c.cut_at.ensures, ap length c.cut_at-in-loop-test.ensures, cut_length);
      same =
          cut_more ts l.test-index c.saturating_add.result _ l.cuts c.cut_at.new.self c.cut_at-in-loop-test.new.self (cuts ts) c.loop-test-test.true l.invariant.same c.cut_at.ensures
          c.saturating_add.ensures c.cut_at-in-loop-test.ensures;
    }
