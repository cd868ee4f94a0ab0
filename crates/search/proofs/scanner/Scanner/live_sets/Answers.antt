use Rattle.std.proofs.Common.{sym, ◌∙◌}
use Rattle.sets.specs.Places.{member}
use Rattle.search.proofs.Views.{counted}
use Rattle.search.proofs.scanner.Scanner.live_sets.Goals as goal

pub returns : goal.returns
returns g c =
    let s = c.args.self.now in
    c.count.ensures ∙ sym (counted (member s.live) (member s.back) s.sets)
