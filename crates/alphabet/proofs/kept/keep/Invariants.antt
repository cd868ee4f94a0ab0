use Rattle.std.proofs.Common.{◌≡◌, ◌≤◌, length, take}
use Rattle.alphabet.proofs.kept.keep.Given as goal

abbrev pub invariant-loop-i : goal.invariant-loop-i
invariant-loop-i g l = (l.used ≤ length l.own) × (take l.i l.own ≡ take l.i l.tests)
