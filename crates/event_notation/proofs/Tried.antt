-- The worked examples hold.
use Rattle.std.proofs.Common.{refl}
use Rattle.event_notation.specs.Trials.{Trials}

pub trials : Trials
trials =
    record {
      reversed = refl;
      kind_too_large = refl;
      kind_at_most = refl;
      six_digits = refl;
      value_too_large = refl;
      value_at_most = refl;
      no_kind = refl;
      no_second_value = refl;
      no_item = refl;
      every = refl;
    }
