use Rattle.std.proofs.Common.{◌≡◌, ◌≤◌, length, take, drop}
use Rattle.law.specs.Calls.{Series}
use Rattle.search.specs.Remembered.{memory, subject}
use Rattle.series.specs.Performed.{requests, replies, behind, taken}
use Rattle.series.proofs.series.perform.Given as goal

abbrev pub invariant-loop-i : goal.invariant-loop-i
invariant-loop-i g l =
    (l.used ≡ taken (length l.initial.entries) (take l.i l.calls))
    × (l.used ≤ length l.initial.entries)
    × (length l.entries ≡ length l.initial.entries)
    × (drop l.i l.answers ≡ drop l.i l.initial.answers)
    × (drop l.used l.entries ≡ drop l.used l.initial.entries)
    × (l.s.automaton ≡ l.initial.s.automaton)
    × (Series (subject g.M.Automaton l.initial.s) (memory g.S.Shelf g.P.Policy l.initial.s) (requests (length l.initial.entries) (take l.i l.calls)) (replies l.entries (take l.i l.calls) (take l.i l.answers)) (memory g.S.Shelf g.P.Policy l.s))
    × (behind l.entries (take l.i l.calls) (take l.i l.answers) ≡ behind l.initial.entries (take l.i l.calls) (take l.i l.answers))
