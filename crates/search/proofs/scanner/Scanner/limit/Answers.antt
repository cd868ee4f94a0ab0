use Rattle.std.proofs.Common.{refl, arith}
use Rattle.sets.specs.Places.{member}
use Rattle.search.specs.Remembered.{memory, subject}
use Rattle.search.proofs.Doing.{did_refused, did_by}
use Rattle.search.proofs.Views.{counted, with_most, kept_limit, kept_then}
use Rattle.search.proofs.Ends.{too_large, limit_within, limit_beyond}
use Rattle.search.proofs.scanner.Scanner.limit.Goals as goal

pub returns-then-limit-gt64 : goal.returns-then-limit-gt64
returns-then-limit-gt64 g c =
    rw c.refused.ensures
    (record {
      did = did_refused g.M.Automaton g.S.Shelf g.P.Policy g.met.M.Automaton.proper c.args.self.now _ _ (too_large c.args.limit c.if-limit-gt64.true);
      idle = λ l. refl;
      automaton = refl;
    })

pub returns-then-count-allowance : goal.returns-then-count-allowance
returns-then-count-allowance g c =
    let s = c.args.self.now in
    record {
      did = λ ok. did_by g.M.Automaton g.S.Shelf g.P.Policy g.met.M.Automaton.proper s (with_most s c.args.limit) _ _ ok (kept_limit g.M.Automaton g.S.Shelf s c.args.limit)
          (limit_within (subject g.M.Automaton s) (memory g.S.Shelf g.P.Policy s) c.args.limit c.if-limit-gt64.false
          (omega (arith, c.count.ensures, c.allowance.ensures, counted (member s.live) (member s.back) s.sets)));
      idle = λ l. absurd (omega (arith, c.if-limit-gt64.false));
      automaton = refl;
    }

pub returns : goal.returns
returns g c =
    let s = c.args.self.now in
    let j = with_most s c.args.limit in
    let e = c.drop_these.ensures in
    record {
      did = λ ok. did_by g.M.Automaton g.S.Shelf g.P.Policy g.met.M.Automaton.proper s c.drop_these.new.self _ _ ok (kept_then g.M.Automaton g.S.Shelf s j c.drop_these.new.self (kept_limit g.M.Automaton g.S.Shelf s c.args.limit) e.kept)
          (limit_beyond (subject g.M.Automaton s) (memory g.S.Shelf g.P.Policy s) _ c.args.limit (member c.all.result) c.drop_these.result ok.sound c.if-limit-gt64.false
          (omega (arith, c.count.ensures, c.allowance.ensures, counted (member s.live) (member s.back) s.sets)) c.all.ensures e.dropped e.gone);
      idle = λ l. absurd (omega (arith, c.if-limit-gt64.false));
      automaton = e.kept.automaton_same;
    }
