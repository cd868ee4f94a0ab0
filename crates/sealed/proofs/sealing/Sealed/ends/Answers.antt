use Rattle.sets.specs.Positions.{holds}
use Rattle.sealed.specs.Plans.{positions_of}
use Rattle.sealed.proofs.Stepping.{meets_common}
use Rattle.sealed.proofs.sealing.Sealed.ends.Goals as goal

pub returns : goal.returns
returns g c = meets_common c.meets.result c.args.set (holds c.last.result) (positions_of c.args.self.now.plan).last c.last.ensures c.meets.ensures
