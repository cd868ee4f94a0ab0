use Rattle.std.proofs.Common.{ℕ, Option, ◌-◌, sym, refl, ap, ◌∙◌, subst, arith}
use Rattle.search.specs.Counted.{known_more}
use Rattle.search.specs.Scanning.{RidingBack}
use Rattle.search.specs.declared.scanner.Run.{Run}
use Rattle.search.specs.Heard.{not_yet, one_more as passed_more}
use Rattle.search.proofs.Rides.{none_more, one_more, riding_next}
use Rattle.search.proofs.Turns.{start_within}
use Rattle.search.proofs.scanner.Scanner.run_back.Goals as goal

pub loop-i-init : goal.loop-i-init
loop-i-init g c = (
  refl,
  c.requires.from,
  omega arith,
  (λ l. absurd (omega arith)),
  (λ n l h. h),
  λ m k h. subst (λ y. RidingBack g.M.Automaton g.S.Shelf g.P.Policy m c.args.row.now.symbols.now c.args.run y c.args.self.now) (sym (none_more k _ (omega arith))) h,
  not_yet,
)

pub loop-i-preserved : goal.loop-i-preserved
loop-i-preserved g c =
    let v = c.loop-i.invariant in
    let s = c.args.self.now in
    let first = c.args.run.at in
    let run : Run (Option ℕ) = record { at = c.loop-i.at; place = c.loop-i.place; mark = c.loop-i.mark; met = c.loop-i.met } in
    let i : ℕ = c.loop-i.i - 1 in
    let next = c.in-Some.next in
    let known = c.in-Some.ensures in
    let b = g.S.Shelf.bounds s.shelf in
    let begins = c.has.result in (
      refl,
      omega (arith, v.0),
      omega (arith, v.0, v.2),
      (λ l. omega (arith, (b.within run.place c.class_of-class.result next (sym known)).2, b.few)),
      (λ n l h. start_within begins i run.at n run.mark c.marked-mark.result c.marked-mark.ensures (omega (arith, v.0)) (omega (arith, v.0, v.2)) (v.4 n l h)),
      λ m k h.
          riding_next g.M.Automaton g.S.Shelf g.P.Policy g.met.M.Automaton.proper s m c.args.row.now.symbols.now run
          (record { at = i; place = next; mark = c.marked-mark.result; met = c.with-met.result })
          (known_more k (first - run.at)) (known_more k (first - i)) c.index-symbols-i.result c.class_of-class.result next begins
          (omega (arith, v.0)) (omega (arith, v.0, v.2, c.requires.within)) c.index-symbols-i.is c.class_of-class.ensures.fits c.class_of-class.ensures.is known refl c.has.ensures c.marked-mark.ensures
          (one_more k (first - run.at) (first - i) (omega (arith, v.0, v.2))) (v.5 m k h),
      passed_more run.at i c.index-symbols-i.result v.6 (omega (arith, v.0), refl) c.index-symbols-i.is (ap (g.S.Shelf.steps s.shelf run.place) (sym c.class_of-class.ensures.is) ∙ sym known) c.with-met.ensures,
    )
