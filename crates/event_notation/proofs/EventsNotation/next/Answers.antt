use Rattle.std.proofs.Common.{◌≡◌, drop}
use Rattle.event_notation.specs.Reading.{lexed}
use Rattle.event_notation.proofs.Sound.{lawful_at}
use Rattle.event_notation.proofs.AtomLaws.{atom_law}
use Rattle.event_notation.proofs.EventsNotation.next.Goals as goal

pub returns-clause-stands : goal.returns-clause-stands
returns-clause-stands c =
    let is : c.read_item.result ≡ lexed c.args.place (drop c.args.place c.args.text.now) = cc in
    lawful_at c.args.place c.args.text.now c.read_item.result c.requires is

pub returns-clause-law : goal.returns-clause-law
returns-clause-law c = atom_law c.args.place _ _ (returns-clause-stands c)
