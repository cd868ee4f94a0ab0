use Rattle.theory.proofs.Wordless.{wordless}
use Rattle.theory.proofs.wordless_stands.Goals as goal

pub returns : goal.returns
returns g c = wordless
