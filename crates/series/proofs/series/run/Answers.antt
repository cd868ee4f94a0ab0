use Rattle.std.proofs.Common.{ap, ◌∙◌}
use Rattle.series.proofs.Runs.{lawful_run, agree}
use Rattle.series.proofs.series.run.Goals as goal

pub returns : goal.returns
returns g c =
    let b = g.S.Shelf.bounds c.args.shelf in
    let o = c.open-searcher.ensures in
    let p = c.perform-made.ensures in
    let law = lawful_run g.M.Automaton g.S.Shelf g.P.Policy g.met.M.Automaton.proper c.open-searcher.result c.perform-made.new.s (g.S.Shelf.room c.args.shelf) (g.S.Shelf.most c.args.shelf) _ _ c.args.automaton.now
    (ap (λ y. y.now) o.automaton) o.opened b.few b.some p.series in
    record {
      count = p.count;
      law = law;
      agrees = agree (g.M.Automaton.subject c.args.automaton.now) _ _ _ _ _ law;
      automaton = p.automaton ∙ o.automaton;
      unanswered = p.unanswered;
      behind = p.behind;
      untaken = p.untaken;
    }
