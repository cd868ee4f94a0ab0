use Rattle.std.proofs.Common.{◌<◌, length, sym, refl, ◌∙◌, arith}
use Rattle.search.specs.Remembered.{memory}
use Rattle.search.proofs.Views.{and_lt, and_not}
use Rattle.search.proofs.Scans.{aheaded_begun, reached}
use Rattle.search.proofs.Turns.{bounded_none, no_counts}
use Rattle.search.proofs.scanner.Scanner.scan_ahead.Goals as goal

pub loop-self-init : goal.loop-self-init
loop-self-init g c =
    let none = no_counts c.default.result c.default.ensures in (
      record { at = c.requires.from; end = c.requires.from; counts = bounded_none _ c.default.result none },
      refl,
      λ ok. aheaded_begun g.M.Automaton g.S.Shelf g.P.Policy g.met.M.Automaton.proper c.args.self.now c.args.row.now.symbols.now c.args.start _ ok refl refl c.begin.ensures refl none,
    )

pub loop-self-preserved : goal.loop-self-preserved
loop-self-preserved g c =
    let v = c.loop-self.invariant in
    let e = c.read_ahead-scan.ensures in
    let o = c.ride_ahead-scan.ensures in
    let m = memory g.S.Shelf g.P.Policy c.args.self.now in (
      o.within,
      o.automaton ∙ e.automaton ∙ v.1,
      λ ok. o.aheaded m c.args.start (e.aheaded m c.args.start (and_not _ _ c.loop-self-test.ensures) (v.2 ok)),
    )

pub loop-self-smaller : goal.loop-self-smaller
loop-self-smaller g c =
    let at = c.loop-self.scan.at in
    let l : at < length c.args.row.now.symbols.now = and_lt at (length c.args.row.now.symbols.now) _ c.loop-self-test.ensures in
    omega (arith, c.read_ahead-scan.ensures.at, c.ride_ahead-scan.ensures.ahead)

pub returns : goal.returns
returns g c =
    let v = c.loop-self.invariant in
    record {
      reached = λ ok. reached g.M.Automaton g.S.Shelf g.P.Policy g.met.M.Automaton.proper c.loop-self.self (memory g.S.Shelf g.P.Policy c.args.self.now) c.args.row.now.symbols.now c.args.start c.loop-self.scan v.0.at (sym c.loop-self-test.ensures) (v.2 ok);
      within = v.0;
      automaton = v.1;
    }
