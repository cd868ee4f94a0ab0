use Rattle.std.proofs.Common.{◌≡◌, ℕ, false, set, sym, subst, ◌∙◌}
use Rattle.sets.specs.Lowest.{LowestFrom}
use Rattle.sets.specs.Positions.{holds, PositionSet}
use Rattle.sets.proofs.Known.{members_low}
use Rattle.sealed.proofs.Linking.{Upto, upto_none, upto_more, upto_all}
use Rattle.sealed.proofs.rows.link_rows.Goals as goal

pub loop-p-init : goal.loop-p-init
loop-p-init c =
    let i = c.into_iter-p-iterator.ensures.into_iter_gives in
    let rows = c.args.rows.now in
    (i.0, subst (λ (n : ℕ). Upto (holds c.args.last) (holds c.args.first) rows rows n) (sym i.1) (upto_none _ _ _ c.told-rows))

pub bounds-rows-p-in-loop-p : goal.bounds-rows-p-in-loop-p
bounds-rows-p-in-loop-p c = members_low c.loop-p.p-iterator.set c.in-Some.p c.in-Some.ensures.steps.0.member

pub bounds-rows-p : goal.bounds-rows-p
bounds-rows-p c = members_low c.loop-p.p-iterator.set c.in-Some.p c.in-Some.ensures.steps.0.member

pub loop-p-preserved : goal.loop-p-preserved
loop-p-preserved c =
    let last = holds c.args.last in
    let first = holds c.args.first in
    let l = c.loop-p in
    let p = c.in-Some.p in
    let s = c.in-Some.ensures.steps in
    let w = subst (λ (m : PositionSet). LowestFrom (holds m) l.p-iterator.from p) l.invariant.0 s.0 in (
      s.1 ∙ l.invariant.0,
      subst (λ (n : ℕ). Upto last first c.args.rows.now (set l.rows p c.union.result) n) (sym s.2)
          (upto_more last first c.args.rows.now l.rows l.p-iterator.from p c.union.result (members_low c.args.last p w.member) w c.union.ensures l.invariant.1),
    )

pub returns : goal.returns
returns c =
    upto_all (holds c.args.last) (holds c.args.first) c.args.rows.now c.loop-p.rows c.loop-p.p-iterator.from
    (λ k l. subst (λ (m : PositionSet). holds m k ≡ false) c.loop-p.invariant.0 (c.in-None.ensures.steps k l)) c.loop-p.invariant.1
