use Rattle.std.proofs.Common.{rules, refl, subst, arith}
use Rattle.sets.specs.Places.{member}
use Rattle.law.specs.Memory.{Memory}
use Rattle.sets.specs.Positions.{PositionSet}
use Rattle.memory.specs.Live.News.{met}
use Rattle.search.specs.Heard.{knew, stepped}
use Rattle.search.specs.Remembered.{memory, subject, Builds}
use Rattle.search.proofs.Views.{with_policy, told_policy, kept_policy, kept_then}
use Rattle.search.proofs.Moves.{known_moved}
use Rattle.search.proofs.scanner.Scanner.advance.Goals as goal

pub returns-in-Some : goal.returns-in-Some
returns-in-Some g c =
    let s = c.args.self.now in
    let j = c.settle-here.new.self in
    let here = c.settle-here.result in
    let e = c.settle-here.ensures in
    let q = c.touch.new.self in
    let h : Memory PositionSet = memory g.S.Shelf g.P.Policy j in
    let w = c.in-Some.ensures.known in
    let f = c.class_of-class.ensures in
    record {
      moved = λ ready at.
          known_moved (subject g.M.Automaton s) (memory g.S.Shelf g.P.Policy s) h _ (member j.live) (member j.back) j.sets c.args.direction c.args.cursor.set c.args.symbol here.place here.gone c.class_of-class.result w.0 c.in-Some.t _
          ready.sound f.fits f.is (e.seated at) w.1 (told_policy g.S.Shelf g.P.Policy j q c.touch.ensures.live) w.2 refl refl refl (search rules);
      small = record { reads = omega arith; known = omega arith; built = omega (arith, c.default.ensures.1.1.0); plain = omega (arith, c.default.ensures.1.1.1.0); dropped = omega (arith, e.small) };
      kept = kept_then g.M.Automaton g.S.Shelf s j (with_policy j q) e.kept (kept_policy g.M.Automaton g.S.Shelf j q);
      heard = knew j here.place c.in-Some.t e.heard refl (_, (subst (λ x. g.P.Policy.hears j.policy (met x) q) c.single.ensures c.touch.ensures.hears, refl));
    }

pub returns-in-None : goal.returns-in-None
returns-in-None g c =
    let s = c.args.self.now in
    let j = c.settle-here.new.self in
    let here = c.settle-here.result in
    let e = c.settle-here.ensures in
    let f = c.class_of-class.ensures in
    let b = c.build.ensures in
    record {
      moved = λ ready at.
          subst (λ y. Builds (g.M.Automaton.subject y.now) (g.S.Shelf.sound j.shelf) c.args.direction c.args.cursor.set c.class_of-class.result here (memory g.S.Shelf g.P.Policy j) (memory g.S.Shelf g.P.Policy c.build.new.self) c.build.result) e.kept.automaton_same b.moved
          (memory g.S.Shelf g.P.Policy s) c.args.symbol ready.sound (e.kept.counts ready.counts) (e.seated at) c.in-None.ensures.known f.fits f.is;
      small = b.small;
      kept = kept_then g.M.Automaton g.S.Shelf s j c.build.new.self e.kept b.kept;
      heard = stepped j here.place e.heard b.heard;
    }
