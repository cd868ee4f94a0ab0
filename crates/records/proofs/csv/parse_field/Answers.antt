use Rattle.std.proofs.Common.{◌≡◌, Some, rules}
use Rattle.script.specs.Numbers.{number_of}
use Rattle.records.specs.Rows.{converted}
use Rattle.records.proofs.Fields.{read}
use Rattle.records.proofs.csv.parse_field.Goals as goal

pub returns : goal.returns
returns g c =
    let text = c.stripped-text.result.now in
    let is : Some c.in_ok-n.n ≡ number_of text = search rules in
    let e : c.map_err.result ≡ converted c.args.field c.try_from.result = search rules in
    read g.T.TryFrom.try_from_gives c.args.field c.args.text.now text c.in_ok-n.n c.try_from.result c.map_err.result c.stripped-text.ensures (search rules) is c.try_from.ensures e
