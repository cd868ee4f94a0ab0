use Rattle.std.proofs.Common.{◌≡◌}
use Rattle.sets.specs.Members.{shared, below}
use Rattle.sets.specs.Positions.{holds}
use Rattle.alphabet.proofs.Alphabet.passing.Given as goal

abbrev pub invariant-loop-test : goal.invariant-loop-test
invariant-loop-test g l = holds l.tests ≡ shared (below l.test) (g.Self.Alphabet.accepts l.self l.class)
