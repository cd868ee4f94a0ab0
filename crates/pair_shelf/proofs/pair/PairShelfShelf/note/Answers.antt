use Rattle.std.proofs.Common.{◌≡◌, ℕ, ◌<◌, true, false, length, take, Some, None, Option, refl, sym, ap, ◌∙◌, arith}
use Rattle.std.specs.Option.{is_some}
use Rattle.std.proofs.lemmas.Bool.{both_ways}
use Rattle.memory.proofs.Sizes.{not_notable, notable_from}
use Rattle.pair_shelf.specs.Pairs.{pairs}
use Rattle.pair_shelf.specs.Bounded.{table_size}
use Rattle.pair_shelf.proofs.Keep.{pairs_push, fine_push}
use Rattle.pair_shelf.proofs.pair.PairShelfShelf.note.Goals as goal
use Rattle.pair_shelf.proofs.pair.PairShelfShelf.note.Goals.{then-self-ge512-via-then-self-ge512, then-self-ge512-via-else-self-ge512+then-is_some}

none_of : (o : Option ℕ) → is_some o ≡ false → o ≡ None
none_of None e = refl
none_of (Some x) e = absurd (both_ways true e refl)

pub returns-then-self-ge512-clause-answer : goal.returns-then-self-ge512-clause-answer
returns-then-self-ge512-clause-answer c =
    let s = c.args.self.now in
    sym (not_notable 64 512 (pairs (take s.len s.steps)) c.args.place c.args.class c.args.target
    (λ k. elim c.then-self-ge512.branch [
      | then-self-ge512-via-then-self-ge512 w ↦ omega (arith, k.room, w.if-self-ge512.true, table_size s.steps s.len (omega arith) s.ok)
      | then-self-ge512-via-else-self-ge512+then-is_some w ↦ both_ways (is_some (pairs (take s.len s.steps) c.args.place c.args.class)) (ap is_some k.lacks) (sym (ap is_some w.know.ensures) ∙ sym w.is_some.ensures ∙ w.if-is_some.true)
    ]))

pub invariant_of-self : goal.invariant_of-self
invariant_of-self c =
    let s = c.args.self.now in
    let l : s.len < length s.steps = omega (arith, c.if-self-ge512.false) in
    record {
      low = omega (arith, c.if-self-ge512.false);
      ok = fine_push s.steps s.len (record { place = c.args.place; class = c.args.class; target = c.args.target }) l s.ok
          (record { from = c.if-place-ge64.false; to = c.if-target-ge64.false; class = c.if-class-ge256.false; lacks = sym c.know.ensures ∙ none_of c.know.result (sym c.is_some.ensures ∙ c.if-is_some.false) });
    }

pub returns-clause-answer : goal.returns-clause-answer
returns-clause-answer c =
    let s = c.args.self.now in
    sym (notable_from 64 512 (pairs (take s.len s.steps)) c.args.place c.args.class c.args.target
    (record {
      place = c.if-place-ge64.false;
      target = c.if-target-ge64.false;
      class = c.if-class-ge256.false;
      lacks = sym c.know.ensures ∙ none_of c.know.result (sym c.is_some.ensures ∙ c.if-is_some.false);
      room = omega (arith, table_size s.steps s.len (omega arith) s.ok, c.if-self-ge512.false);
    }))

pub returns-clause-map : goal.returns-clause-map
returns-clause-map c =
    let s = c.args.self.now in
    let l : s.len < length s.steps = omega (arith, c.if-self-ge512.false) in
    pairs_push s.steps s.len (record { place = c.args.place; class = c.args.class; target = c.args.target }) l
