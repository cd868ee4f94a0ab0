use Rattle.std.proofs.Common.{refl, subst, arith}
use Rattle.law.specs.Memory.{already}
use Rattle.memory.specs.Live.News.{met}
use Rattle.search.specs.Heard.{stayed, settled}
use Rattle.search.proofs.Views.{kept_policy, told_policy}
use Rattle.search.proofs.scanner.Scanner.settle.Goals as goal

pub returns-in-Some : goal.returns-in-Some
returns-in-Some g c =
    let s = c.args.self.now in
    record {
      seated = λ at. already c.in-Some.p (at c.in-Some.p c.in-Some.is) refl (told_policy g.S.Shelf g.P.Policy s c.touch.new.self c.touch.ensures.live) refl;
      small = omega arith;
      kept = kept_policy g.M.Automaton g.S.Shelf s c.touch.new.self;
      heard = stayed c.in-Some.p c.in-Some.is refl (_, (subst (λ x. g.P.Policy.hears s.policy (met x) c.touch.new.self) c.single.ensures c.touch.ensures.hears, refl));
    }

pub returns-in-None : goal.returns-in-None
returns-in-None g c =
    let e = c.seat.ensures in
    record {
      seated = λ at. e.seated;
      small = e.small;
      kept = e.kept;
      heard = settled c.in-None.is e.heard;
    }
