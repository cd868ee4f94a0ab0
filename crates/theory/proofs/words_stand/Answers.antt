use Rattle.theory.proofs.Tells.{tells}
use Rattle.theory.proofs.Answers.{numbered}
use Rattle.theory.proofs.words_stand.Goals as goal

pub returns : goal.returns
returns g c = record { tells = tells; numbered = numbered }
