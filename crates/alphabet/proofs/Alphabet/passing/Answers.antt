use Rattle.std.proofs.Common.{sym, ap, ◌∙◌, arith}
use Rattle.sets.specs.Positions.{holds}
use Rattle.alphabet.proofs.Passing.{none_below, with_one, without_one, all_below}
use Rattle.alphabet.proofs.Alphabet.passing.Goals as goal
use Rattle.alphabet.proofs.Alphabet.passing.Goals.{then-class_passes, else-class_passes}

pub loop-test-init : goal.loop-test-init
loop-test-init g c = c.empty-tests.ensures ∙ none_below (g.Self.Alphabet.accepts c.args.self.now c.args.class)

pub loop-test-preserved : goal.loop-test-preserved
loop-test-preserved g c =
    elim c.if-class_passes.branch [
      | then-class_passes w ↦
          with_one (g.Self.Alphabet.accepts c.args.self.now c.args.class) c.loop-test.test (holds c.loop-test.tests) (holds c.if-class_passes.tests) c.loop-test-test.true
          (sym c.class_passes.ensures ∙ w.if-class_passes.true) c.loop-test.invariant (ap holds w.tests-is ∙ w.with-tests.ensures)
      | else-class_passes w ↦
          ap holds w.tests-is
          ∙ without_one (g.Self.Alphabet.accepts c.args.self.now c.args.class) c.loop-test.test (holds c.loop-test.tests) (sym c.class_passes.ensures ∙ w.if-class_passes.false) c.loop-test.invariant
    ]

pub returns : goal.returns
returns g c = c.loop-test.invariant ∙ all_below (g.Self.Alphabet.accepts c.args.self.now c.args.class) c.loop-test.test (omega arith)
