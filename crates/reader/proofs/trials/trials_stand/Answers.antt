use Rattle.std.proofs.Common.{refl}
use Rattle.reader.proofs.trials.trials_stand.Goals as goal

pub returns : goal.returns
returns c =
    record {
      empty = refl;
      no_branch = refl;
      no_opening = refl;
      no_closing = refl;
      reversed_range = refl;
      item_first = refl;
      operand_first = refl;
      empty_group = refl;
      trailing_space = refl;
      grouped = refl;
    }
