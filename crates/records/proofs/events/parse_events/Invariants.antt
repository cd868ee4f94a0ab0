use Rattle.std.proofs.Common.{◌≡◌, ◌+◌, ◌≤◌, vec_items}
use Rattle.records.specs.Words.{events_of}
use Rattle.records.proofs.Reading.{to_read}
use Rattle.records.proofs.Split.{left}
use Rattle.records.proofs.events.parse_events.Given as goal

abbrev pub invariant-loop-piece : goal.invariant-loop-piece
invariant-loop-piece l = record {
  few : l.number + goal.iterator-loop-piece.remaining l.piece-iterator ≤ goal.iterator-loop-piece.remaining l.initial.piece-iterator;
  read : to_read (vec_items l.out) (l.number + 1) (left 32 l.piece-iterator) ≡ events_of l.text;
}
