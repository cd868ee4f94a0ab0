use Rattle.sets.specs.Places.{member}
use Rattle.search.specs.Remembered.{memory, subject}
use Rattle.search.proofs.Doing.{did_by}
use Rattle.search.proofs.Ends.{clear_answered}
use Rattle.search.proofs.scanner.Scanner.clear.Goals as goal

pub returns : goal.returns
returns g c =
    let s = c.args.self.now in
    let e = c.drop_these.ensures in
    record {
      did = λ ok. did_by g.M.Automaton g.S.Shelf g.P.Policy g.met.M.Automaton.proper s c.drop_these.new.self _ _ ok e.kept
          (clear_answered (subject g.M.Automaton s) (memory g.S.Shelf g.P.Policy s) _ (member c.all.result) c.drop_these.result ok.sound c.all.ensures e.dropped e.gone);
      automaton = e.kept.automaton_same;
    }
