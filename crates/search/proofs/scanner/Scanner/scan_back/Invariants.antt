use Rattle.std.proofs.Common.{◌≡◌, ◌≤◌, length}
use Rattle.search.specs.Remembered.{memory, Ready}
use Rattle.search.specs.Scanning.{Backed, BackWithin}
use Rattle.search.proofs.scanner.Scanner.scan_back.Given as goal

abbrev pub invariant-loop-scan : goal.invariant-loop-scan
invariant-loop-scan g l =
    (l.from ≤ l.scan.at) × BackWithin (length l.row.symbols.now) l.scan × (l.self.automaton ≡ l.initial.self.automaton)
    × (Ready g.M.Automaton g.S.Shelf g.P.Policy l.initial.self →
    Backed g.M.Automaton g.S.Shelf g.P.Policy (memory g.S.Shelf g.P.Policy l.initial.self) l.row.symbols.now l.scan l.self)

abbrev pub decreases-loop-scan : goal.decreases-loop-scan
decreases-loop-scan g l = l.scan.at
