use Rattle.law.proofs.Laws.{law}
use Rattle.law.proofs.law_stands.Goals as goal

pub returns : goal.returns
returns g c M proper = law M proper
