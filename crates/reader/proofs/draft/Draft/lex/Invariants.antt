use Rattle.std.proofs.Common.{◌≡◌, ◌-◌, ◌≤◌, length}
use Rattle.collector.specs.Pushing.{held, size}
use Rattle.reader.specs.Drafts.{tests_of}
use Rattle.reader.proofs.Taking.{Reached}
use Rattle.reader.proofs.draft.Draft.lex.Given as goal

abbrev pub invariant-loop-place : goal.invariant-loop-place
invariant-loop-place g l =
    (l.place ≤ length l.text)
    × (l.items.used ≤ l.place)
    × (size l.items ≡ size l.initial.items)
    × (l.items.entries.ghost_name ≡ l.initial.items.entries.ghost_name)
    × Reached g.N.Notation.lexed l.text (tests_of l.self) (held l.items) l.place

abbrev pub decreases-loop-place : goal.decreases-loop-place
decreases-loop-place g l = length l.text - l.place
