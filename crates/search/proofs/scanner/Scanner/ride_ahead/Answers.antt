use Rattle.std.proofs.Common.{◌-◌, refl, subst, arith}
use Rattle.search.specs.Counted.{tallied, known_more}
use Rattle.sets.specs.Places.{member}
use Rattle.theory.specs.declared.Direction.TheVariants.{Ahead}
use Rattle.search.specs.Heard.{Passed, rode}
use Rattle.search.specs.Remembered.{subject}
use Rattle.search.proofs.Rides.{riding_ahead_from, aheaded_from}
use Rattle.search.proofs.Turns.{bounded_known}
use Rattle.search.proofs.scanner.Scanner.ride_ahead.Goals as goal

pub returns : goal.returns
returns g c =
    let s = c.args.self.now in
    let r = c.args.row.now.symbols.now in
    let scan = c.args.scan in
    let w = c.requires.within in
    let e = c.run_ahead-last.ensures in
    let last = c.run_ahead-last.result in
    record {
      aheaded = λ m from h.
          aheaded_from g.M.Automaton g.S.Shelf g.P.Policy g.met.M.Automaton.proper s c.touch.new.self m r from _ last (known_more (tallied scan.counts) (last.at - scan.at)) c.touch.ensures.live refl refl refl refl c.more_known.ensures
          (e.riding m from (tallied scan.counts) (riding_ahead_from g.M.Automaton g.S.Shelf g.P.Policy g.met.M.Automaton.proper s m r from scan _ c.in-Some.place c.in-Some.is refl refl refl h));
      ahead = e.ahead;
      within = record {
        at = e.within;
        end = e.end w.end;
        counts = bounded_known scan.at (last.at - scan.at) last.at scan.counts c.more_known.result (omega (arith, e.ahead)) w.counts c.more_known.ensures;
      };
      automaton = refl;
      heard = rode c.in-Some.place last.place (member last.met) c.in-Some.is refl
          (subst (λ x. Passed (g.S.Shelf.steps s.shelf) (subject g.M.Automaton s).class_of r Ahead scan.at c.in-Some.place x last.at last.place (member last.met)) c.single.ensures e.passed)
          (_, (c.touch.ensures.hears, refl));
    }
