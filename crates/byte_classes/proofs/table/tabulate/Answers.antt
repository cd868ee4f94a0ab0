use Rattle.std.proofs.Common.{set, refl, ap, ◌∙◌, arith, rules}
use Rattle.symbols.specs.Tests.{passes_byte}
use Rattle.byte_classes.proofs.Rows.{filled_none, filled_new, filled_old, smallest_is}
use Rattle.byte_classes.proofs.table.tabulate.Goals as goal
use Rattle.byte_classes.proofs.table.tabulate.Goals.{then-like-byte, else-like-byte}

pub loop-byte-init : goal.loop-byte-init
loop-byte-init c = rw c.new-passing.ensures (filled_none _ _ refl)

pub loop-byte-preserved : goal.loop-byte-preserved
loop-byte-preserved c =
    let ts = c.args.tests.now.items in
    let b = c.loop-byte.byte-counter in
    let class = c.loop-byte.class in
    let like = c.first_like-like in
    let least = smallest_is ts c.rows-rows.result b like.result c.rows-rows.ensures c.loop-byte-test.true like.ensures in
    elim c.if-like-byte.branch [
      | then-like-byte w ↦
          filled_new ts b w.passed.result class _ c.loop-byte.passing.items _ c.loop-byte-test.true (least ∙ w.if-like-byte.true) (w.passed.ensures (λ t. passes_byte t b) (λ t x k. search rules))
          c.loop-byte.invariant (w.class-is ∙ ap (set class b) w.len.ensures.value) (ap (λ v. v.items) w.passing-is ∙ w.push.ensures.items)
      | else-like-byte w ↦
          rw w.passing-is (filled_old ts b like.result class _ c.loop-byte.passing.items c.loop-byte-test.true least (omega (arith, w.if-like-byte.false, like.ensures.low)) c.loop-byte.invariant w.class-is)
    ]
