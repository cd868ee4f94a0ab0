use Rattle.std.proofs.Common.{◌≡◌, ℕ, ◌-◌, ◌<◌, ◌≤◌, length}
use Rattle.sets.specs.Positions.{PositionSet}
use Rattle.law.specs.Memory.{Memory}
use Rattle.law.specs.Reading.{Counts as Tallies}
use Rattle.search.specs.Counted.{known_more}
use Rattle.sets.specs.Places.{member}
use Rattle.theory.specs.declared.Direction.TheVariants.{Ahead}
use Rattle.search.specs.declared.scanner.Run.{Run}
use Rattle.search.specs.Heard.{Passed}
use Rattle.search.specs.Remembered.{subject}
use Rattle.search.specs.Scanning.{RidingAhead}
use Rattle.search.proofs.scanner.Scanner.run_ahead.Given as goal

abbrev pub invariant-loop-i : goal.invariant-loop-i
invariant-loop-i g l =
    let first = l.fn.run in
    let run : Run ℕ = record { at = l.at; place = l.place; mark = l.mark; met = l.met } in
    (l.at ≡ l.i) × (first.at ≤ run.at) × (run.at ≤ length l.row.symbols.now) × (first.at < run.at → run.place < 64)
    × (first.mark ≤ length l.row.symbols.now → run.mark ≤ length l.row.symbols.now)
    × ((m : Memory PositionSet) (from : ℕ) (k : Tallies) → RidingAhead g.M.Automaton g.S.Shelf g.P.Policy m l.row.symbols.now from first k l.self →
    RidingAhead g.M.Automaton g.S.Shelf g.P.Policy m l.row.symbols.now from run (known_more k (run.at - first.at)) l.self)
    × Passed (g.S.Shelf.steps l.self.shelf) (subject g.M.Automaton l.self).class_of l.row.symbols.now Ahead first.at first.place (member first.met) run.at run.place (member run.met)
