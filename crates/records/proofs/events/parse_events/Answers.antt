use Rattle.std.proofs.Common.{◌≡◌, ◌∷◌, length, vec_items, sym, ◌∙◌, arith, rules, tests}
use Rattle.std.proofs.lemmas.Bool.Decides.{nat_tests}
use Rattle.records.proofs.Reading.{passed, read, wrong, all}
use Rattle.records.proofs.Split.{left, turn, fewer, ended}
use Rattle.records.proofs.events.parse_events.Goals as goal

pub loop-piece-preserved-then-is_empty : goal.loop-piece-preserved-then-is_empty
loop-piece-preserved-then-is_empty c =
    let s = c.loop-piece.piece-iterator in
    let t = c.next.new.self in
    let none : length c.stripped-word.result.now ≡ 0 = grind (arith, nat_tests) in
    let is : left 32 s ≡ c.in-Some.piece.now ∷ left 32 t = turn _ 32 s t c.in-Some.piece (λ x r q k. search (rules, tests)) c.in-Some.ensures.steps in
    record {
      few = omega (arith, c.loop-piece.invariant.few, fewer _ s t c.in-Some.piece c.in-Some.ensures.steps);
      read = passed (vec_items c.loop-piece.out) _ c.in-Some.piece.now c.stripped-word.result.now (left 32 s) (left 32 t) c.stripped-word.ensures is none ∙ c.loop-piece.invariant.read;
    }

pub loop-piece-preserved : goal.loop-piece-preserved
loop-piece-preserved c =
    let s = c.loop-piece.piece-iterator in
    let t = c.next.new.self in
    let there : length c.stripped-word.result.now ≡ 0 → ⊥ = grind (arith, nat_tests) in
    let is : left 32 s ≡ c.in-Some.piece.now ∷ left 32 t = turn _ 32 s t c.in-Some.piece (λ x r q k. search (rules, tests)) c.in-Some.ensures.steps in
    record {
      few = omega (arith, c.loop-piece.invariant.few, fewer _ s t c.in-Some.piece c.in-Some.ensures.steps);
      read = read (vec_items c.loop-piece.out) _ c.in-Some.piece.now c.stripped-word.result.now (left 32 s) (left 32 t) c.stripped-word.ensures is there
          c.in-Some-parse_event.event c.in-Some-parse_event.ensures (vec_items c.push.new.self) c.in_ok-push.ensures.items ∙ c.loop-piece.invariant.read;
    }

pub returns-in_default : goal.returns-in_default
returns-in_default c =
    let s = c.loop-piece.piece-iterator in
    let t = c.next.new.self in
    let there : length c.stripped-word.result.now ≡ 0 → ⊥ = grind (arith, nat_tests) in
    let is : left 32 s ≡ c.in-Some.piece.now ∷ left 32 t = turn _ 32 s t c.in-Some.piece (λ x r q k. search (rules, tests)) c.in-Some.ensures.steps in (
      sym c.loop-piece.invariant.read ∙ wrong (vec_items c.loop-piece.out) _ c.in-Some.piece.now c.stripped-word.result.now (left 32 s) (left 32 t) c.stripped-word.ensures is there c.in_default.ensures,
      c.clear-in_default.ensures.items,
    )

pub returns : goal.returns
returns c = sym c.loop-piece.invariant.read ∙ all (vec_items c.loop-piece.out) _ (left 32 c.loop-piece.piece-iterator) (ended 32 c.loop-piece.piece-iterator c.in-None.ensures.steps.0)
