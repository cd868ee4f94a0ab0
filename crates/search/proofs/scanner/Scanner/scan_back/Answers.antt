use Rattle.std.proofs.Common.{refl, arith}
use Rattle.search.proofs.Scans.{backed_begun}
use Rattle.search.proofs.Turns.{bounded_none, no_counts}
use Rattle.search.proofs.scanner.Scanner.scan_back.Goals as goal

pub loop-scan-init : goal.loop-scan-init
loop-scan-init g c =
    let none = no_counts c.default.result c.default.ensures in (
      omega arith,
      record { at = omega arith; start = tt; counts = bounded_none _ c.default.result none },
      refl,
      λ ok. backed_begun g.M.Automaton g.S.Shelf g.P.Policy g.met.M.Automaton.proper c.args.self.now c.args.row.now.symbols.now _ ok refl c.begin.ensures refl refl none,
    )
