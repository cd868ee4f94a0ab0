use Rattle.std.proofs.Common.{◌+◌, ◌-◌, ◌*◌, ◌<◌, ◌≤◌, length, take, IfSome, Some, Option, sym, refl, ap, ◌∙◌, subst, arith}
use Rattle.collector.specs.Pushing.{held, size}
use Rattle.theory.specs.declared.Span.{Span}
use Rattle.search.specs.Remembered.{memory}
use Rattle.search.specs.Scanning.{Collected}
use Rattle.search.proofs.Turns.{bounded_none, no_counts, bounded_plus, bounded_more}
use Rattle.search.proofs.Listings.{listing_begun, listing_next, listed_none, listed_full, pushed_left, pushed_held, pushed_filled, full_left, full_held, full_filled, take_none}
use Rattle.search.proofs.scanner.Scanner.collect.Goals as goal

pub loop-span-init : goal.loop-span-init
loop-span-init g c =
    let spans = c.args.spans.now in
    let none = no_counts c.default-counts.result c.default-counts.ensures in (
      omega arith,
      c.requires.from,
      bounded_none _ c.default-counts.result none,
      record { size = refl; behind = refl; lender = refl },
      refl,
      λ ok. listing_begun g.M.Automaton g.S.Shelf g.P.Policy c.args.self.now c.args.row.now.symbols.now (size spans) c.args.from (held spans) (size spans - spans.used) c.default-counts.result
          (ap (λ n. take n spans.entries.now) c.requires.fresh ∙ take_none spans.entries.now) (omega (arith, c.requires.fresh)) none ok,
    )

pub loop-span-preserved : goal.loop-span-preserved
loop-span-preserved g c =
    let v = c.loop-span.invariant in
    let spans = c.loop-span.spans in
    let x = c.in-Some.span in
    let e = c.locate-found.ensures in
    let from = c.args.from in
    let at = c.loop-span.at in
    let P : Option Span → Type 0 = λ o. IfSome o (λ (y : Span). (at < y.end) × (y.end ≤ length c.args.row.now.symbols.now)) in
    let i = subst P c.in-Some.is e.inside in
    let p = c.in-Ok.ensures in
    let more : 2097152 * (at - from) + 2097152 ≤ 2097152 * (x.end - from) = omega (arith, v.0, i.0) in (
      omega (arith, v.0, i.0),
      i.1,
      bounded_more (2097152 * (at - from) + 2097152) (2097152 * (x.end - from)) c.plus-counts.result more
          (bounded_plus (2097152 * (at - from)) 2097152 (2097152 * (at - from) + 2097152) c.loop-span.counts c.locate-found.result.counts c.plus-counts.result refl v.2 e.small c.plus-counts.ensures),
      pushed_filled c.args.spans.now spans c.push.new.self x v.3 p,
      e.automaton ∙ v.4,
      λ ok.
          let l = v.5 ok in
          listing_next g.M.Automaton g.S.Shelf g.P.Policy c.loop-span.self c.locate-found.new.self (memory g.S.Shelf g.P.Policy c.args.self.now) c.args.row.now.symbols.now (size c.args.spans.now) from
          (held spans) (held c.push.new.self) (size spans - spans.used) (size c.push.new.self - c.push.new.self.used) at x c.loop-span.counts c.plus-counts.result c.locate-found.result
          e.automaton c.in-Some.is (pushed_left spans c.push.new.self x p) (pushed_held spans c.push.new.self x p) c.plus-counts.ensures (e.located l.ready) l,
    )

pub returns-in_default : goal.returns-in_default
returns-in_default g c =
    let v = c.loop-span.invariant in
    let spans = c.loop-span.spans in
    let e = c.locate-found.ensures in
    record {
      listed = λ ok.
          let l = v.5 ok in
          listed_none g.M.Automaton g.S.Shelf g.P.Policy c.loop-span.self c.locate-found.new.self (memory g.S.Shelf g.P.Policy c.args.self.now) c.args.row.now.symbols.now (size c.args.spans.now) c.args.from
          (held spans) (size spans - spans.used) c.loop-span.at c.loop-span.counts c.locate-found.result _
          e.automaton c.in_default.is refl c.plus-counts.ensures (e.located l.ready) l;
      written = c.used.ensures;
      filled = v.3;
      automaton = e.automaton ∙ v.4;
    }

pub returns-in_default-push : goal.returns-in_default-push
returns-in_default-push g c =
    let v = c.loop-span.invariant in
    let spans = c.loop-span.spans in
    let x = c.in-Some.span in
    let e = c.locate-found.ensures in
    let p = c.in_default-push.ensures in
    let s = c.args.self.now in
    let n = c.locate-found.new.self in
    record {
      listed = λ ok.
          let l = v.5 ok in
          subst (λ y. Collected g.M.Automaton g.S.Shelf g.P.Policy (memory g.S.Shelf g.P.Policy s) c.args.row.now.symbols.now (size c.args.spans.now) c.args.from y (record { written = c.used-in_default-push.result; rest = Some c.loop-span.at; counts = c.plus-counts.result }) n) (sym (full_held spans c.push.new.self x _ p))
          (listed_full g.M.Automaton g.S.Shelf g.P.Policy c.loop-span.self n (memory g.S.Shelf g.P.Policy s) c.args.row.now.symbols.now (size c.args.spans.now) c.args.from
          (held spans) (size spans - spans.used) c.loop-span.at x c.loop-span.counts c.locate-found.result _
          e.automaton c.in-Some.is (full_left spans c.push.new.self x _ p) refl c.plus-counts.ensures (e.located l.ready) l);
      written = c.used-in_default-push.ensures;
      filled = full_filled c.args.spans.now spans c.push.new.self x _ v.3 p;
      automaton = e.automaton ∙ v.4;
    }
