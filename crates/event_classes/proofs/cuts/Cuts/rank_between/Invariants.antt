use Rattle.std.proofs.Common.{◌-◌, ◌≤◌, length}
use Rattle.event_classes.specs.Cuts.{at_or_below}
use Rattle.event_classes.proofs.cuts.Cuts.rank_between.Given as goal

abbrev pub invariant-loop-low : goal.invariant-loop-low
invariant-loop-low l = (l.low ≤ at_or_below l.code l.cuts) × (at_or_below l.code l.cuts ≤ l.high) × (l.high ≤ length l.cuts)

abbrev pub decreases-loop-low : goal.decreases-loop-low
decreases-loop-low l = l.high - l.low
