use Rattle.std.proofs.Common.{◌≡◌, true, take, refl, ap, ◌∙◌, arith}
use Rattle.sets.specs.Places.{member}
use Rattle.pair_shelf.specs.Pairs.{pairs, distinct}
use Rattle.pair_shelf.specs.Bounded.{table_size}
use Rattle.pair_shelf.proofs.Keep.{pairs_kept, distinct_kept}
use Rattle.pair_shelf.proofs.pair.PairShelfShelf.drop_places.Goals as goal

pub invariant_of-self : goal.invariant_of-self
invariant_of-self c =
    let s = c.args.self.now in
    let k = c.keep_steps-self.ensures in
    record { low = omega (arith, k.few); ok = ap distinct k.kept ∙ distinct_kept (member c.args.places) (take s.len s.steps) s.ok }

pub returns : goal.returns
returns c =
    let s = c.args.self.now in
    let k = c.keep_steps-self.ensures in
    let t = c.keep_steps-self.new.steps in
    let n = c.keep_steps-self.result in
    let ok : distinct (take n t) ≡ true = ap distinct k.kept ∙ distinct_kept (member c.args.places) (take s.len s.steps) s.ok in
    record {
      room = refl;
      most = refl;
      sound = λ h. h;
      map = ap pairs k.kept ∙ pairs_kept (member c.args.places) (take s.len s.steps) s.ok;
      answer = omega (arith, k.few, table_size s.steps s.len (omega arith) s.ok, table_size t n (omega (arith, k.few)) ok);
    }
