use Rattle.sealed.specs.Plans.{codes_of}
use Rattle.sealed.proofs.Stepping.{back_rule}
use Rattle.sealed.proofs.plan.Plan.back.Goals as goal

pub returns : goal.returns
returns c =
    let a = c.args.self.now in
    back_rule (codes_of a) a.tables.prior c.args.set c.args.passing c.united.result c.with.result c.united.ensures a.right.2 c.intersection.result c.intersection.ensures c.with.ensures
