use Rattle.std.proofs.Common.{◌≡◌, ◌-◌}
use Rattle.sets.specs.Places.{member}
use Rattle.policies.specs.Round.{going, round}
use Rattle.policies.proofs.clock.go_round.Given as goal

abbrev pub invariant-loop : goal.invariant-loop
invariant-loop l = round (member l.may) (member l.initial.marks) l.initial.at ≡ going (member l.may) (128 - l.counter) (member l.marks) l.at
