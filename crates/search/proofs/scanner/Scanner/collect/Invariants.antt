use Rattle.std.proofs.Common.{◌≡◌, ◌-◌, ◌*◌, ◌≤◌, length}
use Rattle.collector.specs.Pushing.{held, size}
use Rattle.search.specs.Counted.{Bounded}
use Rattle.search.specs.Remembered.{memory, Ready}
use Rattle.search.specs.Scanning.{Listing, Filled}
use Rattle.search.proofs.scanner.Scanner.collect.Given as goal

abbrev pub invariant-loop-span : goal.invariant-loop-span
invariant-loop-span g l =
    (l.from ≤ l.at) × (l.at ≤ length l.row.symbols.now) × Bounded (2097152 * (l.at - l.from)) l.counts
    × Filled l.initial.spans l.spans × (l.self.automaton ≡ l.initial.self.automaton)
    × (Ready g.M.Automaton g.S.Shelf g.P.Policy l.initial.self →
    Listing g.M.Automaton g.S.Shelf g.P.Policy (memory g.S.Shelf g.P.Policy l.initial.self) l.row.symbols.now (size l.initial.spans) l.from (held l.spans) (size l.spans - l.spans.used) l.at l.counts l.self)

abbrev pub decreases-loop-span : goal.decreases-loop-span
decreases-loop-span g l = length l.row.symbols.now - l.at
