use Rattle.sealed.proofs.Assembled.{star_taken, star_refused}
use Rattle.sealed.proofs.assembly.Assembly.step.Goals as goal

pub returns-in_err-plus-in-Star-clause-taken : goal.returns-in_err-plus-in-Star-clause-taken
returns-in_err-plus-in-Star-clause-taken c =
    rw (c.in-Star.is, c.from_residual.ensures) (star_refused c.args.self.now c.plus.new.self c.in_err-plus-in-Star.ensures.taken)

pub returns-in_ok-plus-in-Star-clause-taken : goal.returns-in_ok-plus-in-Star-clause-taken
returns-in_ok-plus-in-Star-clause-taken c =
    rw c.in-Star.is (star_taken c.args.self.now c.plus.new.self c.maybe.new.self c.maybe.result c.in_ok-plus-in-Star.ensures.taken c.maybe.ensures.taken)
