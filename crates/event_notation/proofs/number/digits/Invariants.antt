use Rattle.std.proofs.Common.{◌≡◌, ◌^◌, ◌<◌, ◌≤◌, drop}
use Rattle.event_notation.specs.Numbers.{digits}
use Rattle.event_notation.proofs.number.digits.Given as goal

abbrev pub invariant-loop-byte : goal.invariant-loop-byte
invariant-loop-byte l =
    record {
      index : l.width ≡ l.byte-index;
      few : l.width ≤ 5;
      small : l.value < 10 ^ l.width;
      is : digits l.value l.width (drop l.byte-index l.text) ≡ digits 0 0 l.text;
    }
