use Rattle.theory.proofs.Widths.{alike}
use Rattle.theory.proofs.classes_stand.Goals as goal

pub returns : goal.returns
returns g c = λ passes P m lawful same a b e. alike passes P m lawful same a b e
