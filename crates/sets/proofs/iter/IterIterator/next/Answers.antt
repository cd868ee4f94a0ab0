use Rattle.std.proofs.Common.{◌≤◌, arith}
use Rattle.sets.proofs.Known.{members_low}
use Rattle.sets.proofs.iter.IterIterator.next.Goals as goal

pub overflow_add-self : goal.overflow_add-self
overflow_add-self g c =
    let l = members_low c.args.self.now.set c.in_ok-p.p c.in_ok-p.ensures.member in
    omega arith

pub returns-clause-goes : goal.returns-clause-goes
returns-clause-goes g c =
    let l = members_low c.args.self.now.set c.in_ok-p.p c.in_ok-p.ensures.member in
    let m : c.args.self.now.from ≤ c.in_ok-p.p = c.in_ok-p.ensures.low in
    record { on = λ _. (tt, tt, omega arith); keeps = tt; rests = λ _. tt }
