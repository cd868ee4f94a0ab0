use Rattle.std.proofs.Common.{◌≡◌, ◌-◌, length}
use Rattle.search.specs.Remembered.{memory, Ready}
use Rattle.search.specs.Scanning.{Aheaded, AheadWithin}
use Rattle.search.proofs.scanner.Scanner.scan_ahead.Given as goal

abbrev pub invariant-loop-self : goal.invariant-loop-self
invariant-loop-self g l =
    AheadWithin (length l.row.symbols.now) l.scan × (l.self.automaton ≡ l.initial.self.automaton)
    × (Ready g.M.Automaton g.S.Shelf g.P.Policy l.initial.self →
    Aheaded g.M.Automaton g.S.Shelf g.P.Policy (memory g.S.Shelf g.P.Policy l.initial.self) l.row.symbols.now l.start l.scan l.self)

abbrev pub decreases-loop-self : goal.decreases-loop-self
decreases-loop-self g l = length l.row.symbols.now - l.scan.at
