use Rattle.std.proofs.Common.{ℕ, ◌+◌, ◌-◌, ◌<◌, cond, length, slice_index_or, sym, refl, ap, ◌∙◌, subst, arith}
use Rattle.search.specs.Counted.{known_more}
use Rattle.search.specs.Scanning.{RidingAhead}
use Rattle.search.specs.declared.scanner.Run.{Run}
use Rattle.search.specs.Heard.{not_yet, one_more as passed_more}
use Rattle.search.proofs.Rides.{none_more, one_more, riding_ahead_next}
use Rattle.search.proofs.Turns.{end_within}
use Rattle.search.proofs.scanner.Scanner.run_ahead.Goals as goal

pub loop-i-init : goal.loop-i-init
loop-i-init g c = (
  refl,
  omega arith,
  c.requires.within,
  (λ l. absurd (omega arith)),
  (λ h. h),
  λ m from k h. subst (λ y. RidingAhead g.M.Automaton g.S.Shelf g.P.Policy m c.args.row.now.symbols.now from c.args.run y c.args.self.now) (sym (none_more k _ (omega arith))) h,
  not_yet,
)

pub loop-i-preserved : goal.loop-i-preserved
loop-i-preserved g c =
    let v = c.loop-i.invariant in
    let s = c.args.self.now in
    let r = c.args.row.now.symbols.now in
    let first = c.args.run.at in
    let run : Run ℕ = record { at = c.loop-i.at; place = c.loop-i.place; mark = c.loop-i.mark; met = c.loop-i.met } in
    let at = c.loop-i.i in
    let next = c.in-Some.next in
    let known = c.in-Some.ensures in
    let b = g.S.Shelf.bounds s.shelf in
    let ends = c.has-in-loop-i.result in
    let lt : at < length r = omega arith in (
      refl,
      omega (arith, v.0, v.1),
      omega arith,
      (λ l. omega (arith, (b.within run.place c.class_of-class.result next (sym known)).2, b.few)),
      (λ h. end_within ends (at + 1) (length r) run.mark c.marked-mark.result c.marked-mark.ensures (omega arith) (v.4 h)),
      λ m from k h.
          riding_ahead_next g.M.Automaton g.S.Shelf g.P.Policy g.met.M.Automaton.proper s m r from run
          (record { at = at + 1; place = next; mark = c.marked-mark.result; met = c.with-met.result })
          (known_more k (run.at - first)) (known_more k (at + 1 - first)) c.index-symbols-i.result c.class_of-class.result next ends
          (ap (λ n. n + 1) (sym v.0)) (omega (arith, v.0)) (sym c.has.ensures ∙ c.if-has.false) (c.index-symbols-i.is ∙ ap (λ n. slice_index_or r n c.index-symbols-i.result) (sym v.0)) c.class_of-class.ensures.fits c.class_of-class.ensures.is known refl c.has-in-loop-i.ensures (c.marked-mark.ensures ∙ ap (λ n. cond ends (n + 1) run.mark) (sym v.0))
          (one_more k (run.at - first) (at + 1 - first) (omega (arith, v.0, v.1))) (v.5 m from k h),
      passed_more run.at at c.index-symbols-i.result v.6 (ap (λ n. n + 1) (sym v.0), sym v.0) c.index-symbols-i.is (ap (g.S.Shelf.steps s.shelf run.place) (sym c.class_of-class.ensures.is) ∙ sym known) c.with-met.ensures,
    )
