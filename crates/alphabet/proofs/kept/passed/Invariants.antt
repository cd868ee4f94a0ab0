use Rattle.std.proofs.Common.{◌≡◌, ◌+◌, Bool}
use Rattle.std.specs.Fn.{FnReturnsAt}
use Rattle.sets.specs.Members.{shared, below}
use Rattle.sets.specs.Positions.{holds}
use Rattle.alphabet.specs.Asked.{asked}
use Rattle.alphabet.proofs.kept.passed.Given as goal

abbrev pub invariant-loop-i : goal.invariant-loop-i
invariant-loop-i g l = (test : g.row.T.Denot → Bool) → ((t : g.row.T.Denot) (b : Bool) → FnReturnsAt g.F.Fn l.passes t b → b ≡ test t) → holds l.passed ≡ shared (below (l.i + 1)) (asked test l.tests.items)
