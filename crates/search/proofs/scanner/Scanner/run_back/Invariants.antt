use Rattle.std.proofs.Common.{◌≡◌, ℕ, ◌-◌, ◌<◌, ◌≤◌, IfSome, Option}
use Rattle.sets.specs.Positions.{PositionSet}
use Rattle.law.specs.Memory.{Memory}
use Rattle.law.specs.Reading.{Counts as Tallies}
use Rattle.search.specs.Counted.{known_more}
use Rattle.sets.specs.Places.{member}
use Rattle.theory.specs.declared.Direction.TheVariants.{Back}
use Rattle.search.specs.declared.scanner.Run.{Run}
use Rattle.search.specs.Heard.{Passed}
use Rattle.search.specs.Remembered.{subject}
use Rattle.search.specs.Scanning.{RidingBack}
use Rattle.search.proofs.scanner.Scanner.run_back.Given as goal

abbrev pub invariant-loop-i : goal.invariant-loop-i
invariant-loop-i g l =
    let first = l.fn.run in
    let run : Run (Option ℕ) = record { at = l.at; place = l.place; mark = l.mark; met = l.met } in
    (l.at ≡ l.i) × (l.from ≤ run.at) × (run.at ≤ first.at) × (run.at < first.at → run.place < 64)
    × ((n : ℕ) → first.at ≤ n → IfSome first.mark (λ s. (first.at ≤ s) × (s ≤ n)) → IfSome run.mark (λ s. (run.at ≤ s) × (s ≤ n)))
    × ((m : Memory PositionSet) (k : Tallies) → RidingBack g.M.Automaton g.S.Shelf g.P.Policy m l.row.symbols.now first k l.self →
    RidingBack g.M.Automaton g.S.Shelf g.P.Policy m l.row.symbols.now run (known_more k (first.at - run.at)) l.self)
    × Passed (g.S.Shelf.steps l.self.shelf) (subject g.M.Automaton l.self).class_of l.row.symbols.now Back first.at first.place (member first.met) run.at run.place (member run.met)
