use Rattle.sealed.specs.Plans.{codes_of}
use Rattle.sealed.proofs.Stepping.{ahead_rule}
use Rattle.sealed.proofs.plan.Plan.ahead.Goals as goal

pub returns : goal.returns
returns c =
    let a = c.args.self.now in
    ahead_rule (codes_of a) a.tables.next c.args.set c.args.passing c.united.result c.intersection.result c.united.ensures a.right.1 c.intersection.ensures
