use Rattle.std.proofs.Common.{ℕ, ◌-◌, ◌≤◌, length, IfSome, Option, refl, ◌∙◌, subst, arith}
use Rattle.search.proofs.Doing.{located_some}
use Rattle.search.proofs.Turns.{bounded_plus, bounded_more, span_within}
use Rattle.search.specs.Remembered.{memory}
use Rattle.search.proofs.scanner.Scanner.locate.Goals as goal

pub returns-in-Some : goal.returns-in-Some
returns-in-Some g c =
    let s = c.args.self.now in
    let j = c.scan_back-back.new.self in
    let n = c.scan_ahead-ahead.new.self in
    let r = c.args.row.now.symbols.now in
    let b = c.scan_back-back.ensures in
    let a = c.scan_ahead-ahead.ensures in
    let P : Option ℕ → Type 0 = λ o. IfSome o (λ s. (c.scan_back-back.result.at ≤ s) × (s ≤ length r)) in
    let begins = subst P c.in-Some.is b.within.start in
    record {
      located = λ ok.
          located_some g.M.Automaton g.S.Shelf g.P.Policy g.met.M.Automaton.proper j n (memory g.S.Shelf g.P.Policy s) r c.args.from c.in-Some.start c.scan_back-back.result c.scan_ahead-ahead.result _
          a.automaton b.at c.in-Some.is c.span_of.ensures c.plus.ensures (b.backed ok) (a.reached (b.backed ok).ready);
      inside = span_within c.in-Some.start c.scan_ahead-ahead.result.mark c.args.from (length r) c.span_of.result c.span_of.ensures (omega (arith, begins.0, b.at)) a.within.end;
      small = bounded_plus 1048576 1048576 2097152 c.scan_back-back.result.counts c.scan_ahead-ahead.result.counts c.plus.result refl
          (bounded_more (length r - c.scan_back-back.result.at) 1048576 c.scan_back-back.result.counts (omega (arith, c.args.row.now.short)) b.within.counts)
          (bounded_more c.scan_ahead-ahead.result.at 1048576 c.scan_ahead-ahead.result.counts (omega (arith, a.within.at, c.args.row.now.short)) a.within.counts) c.plus.ensures;
      automaton = a.automaton ∙ b.automaton;
    }
