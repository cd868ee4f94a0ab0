use Rattle.std.proofs.Common.{◌≡◌, ◌+◌, ◌/◌, ap, ◌∙◌, arith}
use Rattle.event_classes.specs.Cuts.{Ascending, at_or_below}
use Rattle.event_classes.specs.Cutting.{rank_above, rank_below}
use Rattle.event_classes.proofs.cuts.Cuts.rank_between.Goals as goal

pub loop-low-init : goal.loop-low-init
loop-low-init c = rw (c.as_slice-cuts.ensures.value ∙ c.self.view_is) (c.requires.above, c.requires.below, c.requires.within)

pub loop-low-preserved-then-cuts-middle : goal.loop-low-preserved-then-cuts-middle
loop-low-preserved-then-cuts-middle c =
    let h : Ascending c.as_slice-cuts.result.now = rw c.as_slice-cuts.ensures.value c.self.invariant in
    let i = (c.loop-low.low + c.loop-low.high) / 2 in
    let r = rank_above c.args.code c.as_slice-cuts.result.now h i (omega arith) c.if-cuts-middle.true in
    (omega arith, c.loop-low.invariant.1, c.loop-low.invariant.2)

pub loop-low-preserved : goal.loop-low-preserved
loop-low-preserved c =
    let h : Ascending c.as_slice-cuts.result.now = rw c.as_slice-cuts.ensures.value c.self.invariant in
    let i = (c.loop-low.low + c.loop-low.high) / 2 in
    let r = rank_below c.args.code c.as_slice-cuts.result.now h i c.if-cuts-middle.false in
    (c.loop-low.invariant.0, r, omega arith)

pub returns-clause-is : goal.returns-clause-is
returns-clause-is c =
    let r : c.loop-low.low ≡ at_or_below c.args.code c.as_slice-cuts.result.now = omega arith in
    r ∙ ap (at_or_below c.args.code) (c.as_slice-cuts.ensures.value ∙ c.self.view_is)
