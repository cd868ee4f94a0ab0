-- The worked examples hold.
use Rattle.std.proofs.Common.{refl}
use Rattle.byte_notation.specs.Classes.{names, ranges}
use Rattle.byte_notation.specs.Trials.{Trials}

pub trials : Trials
unfolding names ranges
trials =
    record {
      bar = refl;
      dot = refl;
      closing_bracket = refl;
      escaped_line_feed = refl;
      escaped_dollar = refl;
      no_item = refl;
      no_item_brace = refl;
      no_item_dollar = refl;
      last_backslash = refl;
      unknown_escape = refl;
      empty = refl;
      empty_inverted = refl;
      unclosed_range = refl;
      bracket_first = refl;
      bracket_first_inverted = refl;
      dash_first = refl;
      dash_last = refl;
      from_dash = refl;
      dashes = refl;
      to_dash = refl;
      dash_between = refl;
      from_bracket = refl;
      bracket_and_dash = refl;
      reversed = refl;
      reversed_unclosed = refl;
      to_class = refl;
      from_class = refl;
      unknown_class = refl;
      unclosed_class = refl;
      opened_class = refl;
    }
