use Rattle.std.proofs.Common.{◌≡◌, ℕ, false, sym, subst, refl, ◌∙◌}
use Rattle.sets.specs.Lowest.{LowestFrom}
use Rattle.sets.specs.Positions.{holds, PositionSet}
use Rattle.sets.proofs.Known.{members_low}
use Rattle.sealed.proofs.Uniting.{United, united_none, united_more, united_all}
use Rattle.sealed.proofs.rows.united.Goals as goal

pub loop-p-init : goal.loop-p-init
loop-p-init c =
    let i = c.into_iter-p-iterator.ensures.into_iter_gives in
    (i.0, subst (λ (n : ℕ). United c.args.members c.args.rows.now n c.empty-all.result) (sym i.1) (united_none c.args.members c.args.rows.now c.empty-all.result c.empty-all.ensures))

pub bounds-rows-p : goal.bounds-rows-p
bounds-rows-p c = members_low c.loop-p.p-iterator.set c.in-Some.p c.in-Some.ensures.steps.0.member

pub loop-p-preserved : goal.loop-p-preserved
loop-p-preserved c =
    let s = c.in-Some.ensures.steps in
    let w = subst (λ (m : PositionSet). LowestFrom (holds m) c.loop-p.p-iterator.from c.in-Some.p) c.loop-p.invariant.0 s.0 in (
      s.1 ∙ c.loop-p.invariant.0,
      subst (λ (n : ℕ). United c.args.members c.args.rows.now n c.union-all.result) (sym s.2)
          (united_more c.args.members c.args.rows.now c.loop-p.p-iterator.from c.in-Some.p c.loop-p.all c.union-all.result _
          (members_low c.args.members c.in-Some.p w.member) w refl c.union-all.ensures c.loop-p.invariant.1),
    )

pub returns : goal.returns
returns c =
    united_all c.args.members c.args.rows.now c.loop-p.p-iterator.from c.loop-p.all
    (λ k l. subst (λ (m : PositionSet). holds m k ≡ false) c.loop-p.invariant.0 (c.in-None.ensures.steps k l)) c.loop-p.invariant.1
