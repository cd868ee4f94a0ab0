use Rattle.sets.specs.Positions.{holds}
use Rattle.sealed.specs.Plans.{positions_of}
use Rattle.sealed.proofs.Stepping.{meets_common}
use Rattle.sealed.proofs.sealing.Sealed.begins.Goals as goal

pub returns : goal.returns
returns g c = meets_common c.meets.result c.args.set (holds c.first.result) (positions_of c.args.self.now.plan).first c.first.ensures c.meets.ensures
