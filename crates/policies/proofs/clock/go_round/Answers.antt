use Rattle.std.proofs.Common.{◌<◌, sym, ◌∙◌, arith}
use Rattle.sets.specs.Places.{member}
use Rattle.policies.proofs.Ways.{past_more, cleared_more, stopped_more, ended_more}
use Rattle.policies.proofs.clock.go_round.Goals as goal
use Rattle.policies.proofs.clock.go_round.Goals.{then-has+else-not-has, else-has}

pub returns-then-not-has : goal.returns-then-not-has
returns-then-not-has c =
    sym (stopped_more (member c.args.may) c.loop.counter (member c.loop.marks) c.loop.at (omega arith) (sym c.if-has.ensures) (sym c.if-not-has.ensures))
    ∙ sym c.loop.invariant

pub loop-preserved : goal.loop-preserved
loop-preserved c =
    let h : c.loop.counter < 128 = omega arith in
    elim c.if-has.branch [
      | then-has+else-not-has w ↦
          let e = cleared_more (member c.args.may) c.loop.counter (member c.loop.marks) c.loop.at h (sym c.has.ensures ∙ w.if-has.true) (sym w.has-then-has.ensures ∙ w.if-not-has.false) in cc
      | else-has w ↦ let e = past_more (member c.args.may) c.loop.counter (member c.loop.marks) c.loop.at h (sym c.has.ensures ∙ w.if-has.false) in cc
    ]

pub returns : goal.returns
returns c = sym (ended_more (member c.args.may) c.loop.counter (member c.loop.marks) c.loop.at (omega arith)) ∙ sym c.loop.invariant
