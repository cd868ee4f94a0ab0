use Rattle.std.proofs.Common.{◌-◌, length, refl, arith}
use Rattle.search.proofs.Scans.{backed_next}
use Rattle.search.proofs.Turns.{bounded_plus, start_within}
use Rattle.search.proofs.scanner.Scanner.read_back.Goals as goal

pub returns : goal.returns
returns g c =
    let s = c.args.self.now in
    let r = c.args.row.now.symbols.now in
    let scan = c.args.scan in
    let w = c.requires.within in
    let step = c.advance-step in
    record {
      backed = λ m h.
          backed_next g.M.Automaton g.S.Shelf g.P.Policy g.met.M.Automaton.proper s step.new.self m r scan _ c.index-symbols-at.result step.result c.has_first-begins.result
          step.ensures.kept (omega (arith, c.requires.more)) (omega (arith, c.requires.more, w.at)) c.index-symbols-at.is step.ensures.moved refl c.has_first-begins.ensures c.marked.ensures c.plus.ensures h;
      at = refl;
      within = record {
        at = omega (arith, w.at);
        start = start_within c.has_first-begins.result (scan.at - 1) scan.at (length r) scan.mark c.marked.result c.marked.ensures (omega arith) (omega (arith, w.at)) w.start;
        counts = bounded_plus (length r - scan.at) 1 (length r - (scan.at - 1)) scan.counts step.result.counts c.plus.result (omega (arith, c.requires.more, w.at)) w.counts step.ensures.small c.plus.ensures;
      };
      automaton = step.ensures.kept.automaton_same;
    }
