use Rattle.std.proofs.Common.{refl}
use Rattle.theory.specs.Masks.{those, some}
use Rattle.trials.proofs.Searching.{longest, leftmost, never_empty, empty_whole, listed}
use Rattle.trials.proofs.Counting.{roomy, alone}
use Rattle.trials.proofs.Written.{ab_proper, ab_computed}
use Rattle.trials.proofs.trials_stand.Goals as goal

pub returns : goal.returns
unfolding those some
returns c =
    record {
      reading = c.trials_stand.ensures;
      longest = longest;
      leftmost = leftmost;
      never_empty = never_empty;
      empty_whole = empty_whole;
      listed = listed;
      roomy = roomy _ ab_proper ab_computed;
      alone = alone _ ab_proper ab_computed;
      least = refl;
      most = refl;
      above = refl;
      end = refl;
      past = refl;
    }
