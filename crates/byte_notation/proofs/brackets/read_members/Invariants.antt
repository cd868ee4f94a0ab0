use Rattle.std.proofs.Common.{◌≡◌, ◌+◌, ◌-◌, ◌≤◌, length, drop}
use Rattle.symbols.specs.ByteSets.{no_byte}
use Rattle.byte_notation.specs.declared.brackets.State.TheVariants.{NoMember}
use Rattle.byte_notation.specs.Brackets.{members}
use Rattle.byte_notation.proofs.brackets.read_members.Given as goal

abbrev pub invariant-loop-cursor : goal.invariant-loop-cursor
invariant-loop-cursor l =
    record {
      from : l.start ≤ l.cursor;
      is : members l.text.place l.state l.test (l.text.place + l.cursor) 0 (drop l.cursor l.text.bytes.now)
          ≡ members l.text.place NoMember no_byte (l.text.place + l.start) 0 (drop l.start l.text.bytes.now);
    }

abbrev pub decreases-loop-cursor : goal.decreases-loop-cursor
decreases-loop-cursor l = length l.text.bytes.now - l.cursor
