use Rattle.series.proofs.agreement.agree.Goals as goal

pub returns : goal.returns
returns g c =
    let a = c.run-one.ensures in
    let b = c.run-two.ensures in
    record {
      counts = (a.count, b.count);
      first = a.law;
      second = b.law;
      same = a.agrees _ _ _ _ _ b.law;
      automaton = (a.automaton, b.automaton);
      spared = (record { unanswered = a.unanswered; unwritten = a.behind; untaken = a.untaken }, record { unanswered = b.unanswered; unwritten = b.behind; untaken = b.untaken });
    }
