use Rattle.std.proofs.Common.{refl}
use Rattle.theory.specs.Masks.{those, some}
use Rattle.law.proofs.Trials.{roomy, alone}
use Rattle.law.proofs.trials_stand.Goals as goal

pub returns : goal.returns
unfolding those some
returns c = record { found = refl; steps = refl; sets = refl; again = refl; roomy = roomy; alone = alone; lists = refl; none = refl; empty = refl; least = refl; most = refl; above = refl; end = refl; past = refl }
