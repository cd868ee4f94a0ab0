use Rattle.std.proofs.Common.{◌≡◌, ◌≤◌, length, take}
use Rattle.alphabet.proofs.kept.kept_tests.Given as goal

abbrev pub invariant-loop-test : goal.invariant-loop-test
invariant-loop-test g l = (length l.kept.items ≤ l.test-index) × (l.kept.items ≡ take l.test-index l.tests)
