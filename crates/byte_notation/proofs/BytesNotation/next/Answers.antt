use Rattle.std.proofs.Common.{◌≡◌, drop}
use Rattle.byte_notation.specs.Lexing.{lexed}
use Rattle.byte_notation.proofs.Sound.{sound_at}
use Rattle.byte_notation.proofs.BytesNotation.next.Goals as goal

pub returns-clause-law : goal.returns-clause-law
returns-clause-law c =
    let is : c.read_item.result ≡ lexed c.args.place (drop c.args.place c.args.text.now) = cc in
    sound_at c.args.place c.args.text.now c.read_item.result c.requires is
