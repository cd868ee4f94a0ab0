use Rattle.sets.specs.Places.{member}
use Rattle.pair_shelf.proofs.Keep.{Sweep}
use Rattle.pair_shelf.proofs.pair.keep_steps.Given as goal

abbrev pub invariant-loop-i : goal.invariant-loop-i
invariant-loop-i l = Sweep l.initial.steps (member l.places) l.i l.steps l.n
