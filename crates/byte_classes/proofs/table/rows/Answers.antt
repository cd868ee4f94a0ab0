use Rattle.std.proofs.Common.{◌≡◌, rules}
use Rattle.byte_classes.specs.Tables.{row}
use Rattle.alphabet.proofs.FromFn.{each_made}
use Rattle.byte_classes.proofs.table.rows.Goals as goal

pub returns : goal.returns
returns c = λ b l. each_made _ (λ k r. r ≡ row c.args.tests.now.items k) _ (λ i y q k. search rules) c.from_fn.result 256 c.from_fn.ensures.items b 0 l
