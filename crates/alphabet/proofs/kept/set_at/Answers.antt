use Rattle.std.proofs.Common.{◌≡◌, get_or, ap, ◌∙◌, arith}
use Rattle.std.specs.Option.{unwrap_or}
use Rattle.sets.specs.Positions.{holds}
use Rattle.alphabet.proofs.Sets.{at_blank}
use Rattle.alphabet.proofs.kept.set_at.Goals as goal

pub returns : goal.returns
returns c =
    let sets = c.args.sets.now in
    let none = c.empty.result in
    let read : c.unwrap_or.result ≡ get_or sets c.args.i none =
    c.unwrap_or.ensures ∙ ap (λ o. unwrap_or o none) c.copied.ensures ∙ c.get.ensures.lookup.4 (omega arith) none in
    ap holds read ∙ at_blank sets c.args.i none c.empty.ensures
