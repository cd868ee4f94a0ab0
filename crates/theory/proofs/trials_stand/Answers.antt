use Rattle.std.proofs.Common.{refl}
use Rattle.theory.specs.Masks.{those, some}
use Rattle.theory.proofs.trials_stand.Goals as goal

pub returns : goal.returns
unfolding those some
returns c =
    record {
      longest = refl;
      leftmost = refl;
      never_empty = refl;
      empty_whole = refl;
      listed = refl;
      reads = refl;
    }
