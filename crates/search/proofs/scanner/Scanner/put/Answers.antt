use Rattle.std.proofs.Common.{◌<◌, length, refl, rules}
use Rattle.sets.specs.Places.{member}
use Rattle.search.proofs.Views.{same_memory, lives_put, flag_put}
use Rattle.search.proofs.scanner.Scanner.put.Goals as goal

pub returns : goal.returns
returns g c =
    let s = c.args.self.now in
    let p = c.args.place in
    let v = c.args.set in
    let low : p < length s.sets = search rules in
    record {
      put = same_memory _ _
          (lives_put (member s.live) _ (member s.back) _ s.sets p v c.is_back.result c.args.direction c.with-self.ensures c.mark-back.ensures c.is_back.ensures c.requires low)
          refl c.seat.ensures.live refl refl refl;
      heard = (_, (c.seat.ensures.hears, refl));
      kept = record {
        automaton_same = refl;
        counts = λ h. h;
        flags = λ f. record {
          begins = flag_put (member s.live) _ (member s.begins) _ s.sets (g.M.Automaton.subject s.automaton.now).machine.first p v c.has_first.result c.with-self.ensures c.mark-begins.ensures c.has_first.ensures c.requires low f.begins;
          ends = flag_put (member s.live) _ (member s.ends) _ s.sets (g.M.Automaton.subject s.automaton.now).machine.last p v c.has_last.result c.with-self.ensures c.mark-ends.ensures c.has_last.ensures c.requires low f.ends;
          empties = flag_put (member s.live) _ (member s.empties) _ s.sets (g.M.Automaton.subject s.automaton.now).machine.empty p v c.is_empty.result c.with-self.ensures c.mark-empties.ensures c.is_empty.ensures c.requires low f.empties;
        };
      };
    }
