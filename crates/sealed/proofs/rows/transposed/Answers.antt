use Rattle.std.proofs.Common.{◌≡◌, rules}
use Rattle.sets.specs.Positions.{holds}
use Rattle.alphabet.proofs.FromFn.{each_made}
use Rattle.alphabet.specs.Sets.{blank}
use Rattle.sealed.specs.Tables.{column}
use Rattle.sealed.proofs.Linking.{transposed_all}
use Rattle.sealed.proofs.rows.transposed.Goals as goal

pub returns : goal.returns
returns c =
    transposed_all c.args.rows.now c.from_fn.result c.from_fn.ensures.items.long
    (λ k l. each_made _ (λ i s. holds s ≡ column c.args.rows.now i) _ (λ i y q w. search rules) c.from_fn.result 64 c.from_fn.ensures.items k blank l)
