use Rattle.std.proofs.Common.{◌+◌, length, refl, arith}
use Rattle.search.proofs.Scans.{aheaded_next}
use Rattle.search.proofs.Turns.{bounded_plus, end_within}
use Rattle.search.proofs.scanner.Scanner.read_ahead.Goals as goal

pub returns : goal.returns
returns g c =
    let s = c.args.self.now in
    let r = c.args.row.now.symbols.now in
    let scan = c.args.scan in
    let w = c.requires.within in
    let step = c.advance-step in
    record {
      aheaded = λ m from live h.
          aheaded_next g.M.Automaton g.S.Shelf g.P.Policy g.met.M.Automaton.proper s step.new.self m r from scan _ c.index-symbols-at.result step.result c.has_last-ends.result
          step.ensures.kept refl c.requires.more c.index-symbols-at.is step.ensures.moved refl c.has_last-ends.ensures c.marked.ensures c.plus.ensures live h;
      at = refl;
      within = record {
        at = omega (arith, c.requires.more);
        end = end_within c.has_last-ends.result (scan.at + 1) (length r) scan.mark c.marked.result c.marked.ensures (omega (arith, c.requires.more)) w.end;
        counts = bounded_plus scan.at 1 (scan.at + 1) scan.counts step.result.counts c.plus.result refl w.counts step.ensures.small c.plus.ensures;
      };
      automaton = step.ensures.kept.automaton_same;
    }
