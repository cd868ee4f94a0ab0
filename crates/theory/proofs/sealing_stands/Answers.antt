use Rattle.theory.proofs.Seal.{sealed_is}
use Rattle.theory.proofs.sealing_stands.Goals as goal

pub returns : goal.returns
returns c = sealed_is
