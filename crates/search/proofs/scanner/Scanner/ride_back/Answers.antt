use Rattle.std.proofs.Common.{◌-◌, length, refl, subst, arith}
use Rattle.search.specs.Counted.{tallied, known_more}
use Rattle.sets.specs.Places.{member}
use Rattle.theory.specs.declared.Direction.TheVariants.{Back}
use Rattle.search.specs.Heard.{Passed, rode}
use Rattle.search.specs.Remembered.{subject}
use Rattle.search.proofs.Rides.{riding_from, backed_from}
use Rattle.search.proofs.Turns.{bounded_known}
use Rattle.search.proofs.scanner.Scanner.ride_back.Goals as goal

pub returns : goal.returns
returns g c =
    let s = c.args.self.now in
    let r = c.args.row.now.symbols.now in
    let scan = c.args.scan in
    let w = c.requires.within in
    let e = c.run_back-end.ensures in
    let end = c.run_back-end.result in
    record {
      backed = λ m h.
          backed_from g.M.Automaton g.S.Shelf g.P.Policy g.met.M.Automaton.proper s c.touch.new.self m r _ end (known_more (tallied scan.counts) (scan.at - end.at)) c.touch.ensures.live refl refl refl refl c.more_known.ensures
          (e.riding m (tallied scan.counts) (riding_from g.M.Automaton g.S.Shelf g.P.Policy g.met.M.Automaton.proper s m r scan _ c.in-Some.place c.in-Some.is refl refl refl h));
      from = e.from;
      back = e.ahead;
      within = record {
        at = omega (arith, e.ahead, w.at);
        start = e.start (length r) w.at w.start;
        counts = bounded_known (length r - scan.at) (scan.at - end.at) (length r - end.at) scan.counts c.more_known.result (omega (arith, e.ahead, w.at)) w.counts c.more_known.ensures;
      };
      automaton = refl;
      heard = rode c.in-Some.place end.place (member end.met) c.in-Some.is refl
          (subst (λ x. Passed (g.S.Shelf.steps s.shelf) (subject g.M.Automaton s).class_of r Back scan.at c.in-Some.place x end.at end.place (member end.met)) c.single.ensures e.passed)
          (_, (c.touch.ensures.hears, refl));
    }
