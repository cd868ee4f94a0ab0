use Rattle.std.proofs.Common.{◌≡◌, ℕ, ◌+◌, ◌<◌, ◌≤◌, [], ◌∷◌, sym, refl, ap, ◌∙◌, subst, arith}
use Rattle.std.proofs.lemmas.Bool.{both_ways, lt-ltb}
use Rattle.sets.specs.Members.{tally}
use Rattle.sets.specs.Lowest.{LowestFree}
use Rattle.sets.specs.Places.{member}
use Rattle.sets.specs.Positions.{PositionSet}
use Rattle.sets.proofs.Known.{members_low}
use Rattle.law.specs.Memory.{Memory, already, room, made, nowhere, held_places, without_places, with_set, steps_known}
use Rattle.law.proofs.Tally.{tally_lowest}
use Rattle.memory.specs.Live.News.{seated, dropped, met, chose}
use Rattle.search.specs.Heard.{Heard, met_again, took_free, made_free, in_vain}
use Rattle.search.specs.Remembered.{memory, state, Kept}
use Rattle.search.proofs.Views.{here, absent, lowest, counted, less_out, with_policy, kept_policy, told_policy, kept_then}
use Rattle.search.proofs.Hearing.{chain}
use Rattle.search.proofs.Noting.{dropped_small}
use Rattle.search.proofs.scanner.Scanner.seat.Goals as goal
use Rattle.search.proofs.scanner.Scanner.seat.Goals.{then-count-allowance+else-is_empty, else-count-allowance}

pub returns-in-Some : goal.returns-in-Some
returns-in-Some g c =
    let s = c.args.self.now in
    let p = c.in-Some.p in
    let h = c.in-Some.ensures in
    record {
      seated = already p (here (member s.live) (member s.back) s.sets p c.args.set c.args.direction h.1.0 h.1.1 h.1.2) refl
          (told_policy g.S.Shelf g.P.Policy s c.touch.new.self c.touch.ensures.live) refl;
      small = omega arith;
      kept = kept_policy g.M.Automaton g.S.Shelf s c.touch.new.self;
      heard = met_again p h.1 refl (_, (subst (λ x. g.P.Policy.hears s.policy (met x) c.touch.new.self) c.single.ensures c.touch.ensures.hears, refl));
    }

pub returns-then-is_empty : goal.returns-then-is_empty
returns-then-is_empty g c =
    let s = c.args.self.now in
    let q = c.choose-places.new.self in
    record {
      seated = nowhere (absent s.live (member s.back) s.sets c.args.set c.args.direction c.in_default.ensures)
          (omega (arith, c.count.ensures, c.allowance.ensures, counted (member s.live) (member s.back) s.sets))
          (λ k m.
          let w = c.choose-places.ensures.some k m in
          both_ways (member c.choose-places.result w.0) (ap (λ f. f w.0) c.if-is_empty.ensures) w.1)
          refl (told_policy g.S.Shelf g.P.Policy s q c.choose-places.ensures.same) refl;
      small = omega arith;
      kept = kept_policy g.M.Automaton g.S.Shelf s q;
      heard = in_vain refl (_, (subst (λ x. g.P.Policy.hears s.policy (chose c.args.held x) q) c.if-is_empty.ensures c.choose-places.ensures.hears, refl));
    }

pub unreachable-requires : goal.unreachable-requires
unreachable-requires g c =
    let all = c.in-None.ensures in
    elim c.if-count-allowance.branch [
      | then-count-allowance+else-is_empty w ↦
          let x = w.if-is_empty.ensures in
          let k : ℕ = x.0 in
          let l : k < 64 = members_low w.choose-places.result k x.1 in
          both_ways (member c.if-count-allowance.self.live k)
          (ap (λ s. member s.live k) w.self-is
          ∙ ap (λ f. f k) w.drop_these-gone.ensures.live
          ∙ less_out (member c.args.self.now.live) (member w.choose-places.result) k x.1)
          (ap (λ f. f k) all ∙ lt-ltb k 64 l)
      | else-count-allowance w ↦
          let t : 64 ≤ tally (member c.if-count-allowance.self.live) 64 = tally_lowest (member c.if-count-allowance.self.live) 64 64 (omega arith) (λ k l. ap (λ f. f k) all ∙ lt-ltb k 64 l) in
          let e : tally (member c.if-count-allowance.self.live) 64 ≡ tally (member c.args.self.now.live) 64 = ap (λ s. tally (member s.live) 64) w.self-is in
          let n : c.count.result ≡ tally (member c.args.self.now.live) 64 = c.count.ensures in
          let b = (g.S.Shelf.bounds c.args.self.now.shelf).few in
          omega (arith, c.allowance.ensures, b)
    ]

pub returns : goal.returns
returns g c =
    let s = c.args.self.now in
    let p = c.in-Some-lowest_free.p in
    let j = c.if-count-allowance.self in
    let m : Memory PositionSet = memory g.S.Shelf g.P.Policy s in
    let v : Memory PositionSet = memory g.S.Shelf g.P.Policy j in
    let x = state c.args.direction c.args.set in
    let free : LowestFree (held_places v) p = lowest v (member j.live) (member j.back) j.sets p refl c.in-Some-lowest_free.ensures in
    let out = absent s.live (member s.back) s.sets c.args.set c.args.direction c.in_default.ensures in
    let cnt = counted (member s.live) (member s.back) s.sets in
    elim c.if-count-allowance.branch [
      | then-count-allowance+else-is_empty w ↦
          let places = member w.choose-places.result in
          let q = w.choose-places.new.self in
          let told : memory g.S.Shelf g.P.Policy (with_policy s q) ≡ m = told_policy g.S.Shelf g.P.Policy s q w.choose-places.ensures.same in
          let e : v ≡ without_places m places = ap (memory g.S.Shelf g.P.Policy) w.self-is ∙ w.drop_these-gone.ensures.dropped
          ∙ ap (λ (y : Memory PositionSet). without_places y places) told in
          let F : Memory PositionSet → Type 0 = λ y. LowestFree (held_places y) p in
          let gone : w.drop_these-gone.result + steps_known (without_places m places) ≡ steps_known m = w.drop_these-gone.ensures.gone in
          record {
            seated = made places p out (omega (arith, c.count.ensures, c.allowance.ensures, cnt))
                record { within = w.choose-places.ensures.within; low = members_low w.choose-places.result; some = w.if-is_empty.ensures }
                (subst F e free) refl
                (c.put.ensures.put ∙ ap (λ (y : Memory PositionSet). with_set y p x) e)
                (ap (λ y. y + steps_known (without_places m places)) w.gone-is ∙ gone);
            small = omega (arith, w.gone-is, dropped_small w.drop_these-gone.result m.places _ m.known (g.S.Shelf.bounds s.shelf).few gone);
            kept = kept_then g.M.Automaton g.S.Shelf s j _
                (subst (λ y. Kept g.M.Automaton g.S.Shelf s y) (sym w.self-is)
                (kept_then g.M.Automaton g.S.Shelf s (with_policy s q) _ (kept_policy g.M.Automaton g.S.Shelf s q) w.drop_these-gone.ensures.kept))
                c.put.ensures.kept;
            heard = made_free places p refl (c.put.ensures.put ∙ ap (λ (y : Memory PositionSet). with_set y p x) e) (
              q,
              (
                w.choose-places.ensures.hears,
                chain g.P.Policy q (dropped places) (seated p) w.drop_these-gone.new.self.policy c.put.new.self.policy w.drop_these-gone.ensures.heard
                    (subst (λ y. Heard g.P.Policy y.policy (seated p ∷ []) c.put.new.self.policy) w.self-is c.put.ensures.heard),
              ),
            );
          }
      | else-count-allowance w ↦
          let e : v ≡ m = ap (memory g.S.Shelf g.P.Policy) w.self-is in
          let F : Memory PositionSet → Type 0 = λ y. LowestFree (held_places y) p in
          record {
            seated = room p out (omega (arith, c.count.ensures, c.allowance.ensures, cnt)) (subst F e free) refl
                (c.put.ensures.put ∙ ap (λ (y : Memory PositionSet). with_set y p x) e) w.gone-is;
            small = omega (arith, w.gone-is);
            kept = subst (λ y. Kept g.M.Automaton g.S.Shelf y c.put.new.self) w.self-is c.put.ensures.kept;
            heard = took_free p refl (c.put.ensures.put ∙ ap (λ (y : Memory PositionSet). with_set y p x) e)
                (subst (λ y. Heard g.P.Policy y.policy (seated p ∷ []) c.put.new.self.policy) w.self-is c.put.ensures.heard);
          }
    ]
