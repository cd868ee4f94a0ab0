use Rattle.std.proofs.Common.{◌≡◌, ◌+◌, ◌*◌, ◌≤◌, drop}
use Rattle.grammar.specs.Memory.{SameCodes, state_of, load}
use Rattle.grammar.specs.Parse.{run}
use Rattle.grammar.proofs.parser.Parser.read_all.Given as goal

abbrev pub invariant-loop-placed : goal.invariant-loop-placed
invariant-loop-placed l = record {
  codes : SameCodes l.initial.self l.self;
  light : load (state_of l.self) ≤ load (state_of l.initial.self) + 2 * l.placed-index;
  so_far : run l.text_length (state_of l.initial.self) l.items ≡ run l.text_length (state_of l.self) (drop l.placed-index l.items);
}
