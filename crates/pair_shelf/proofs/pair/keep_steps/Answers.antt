use Rattle.std.proofs.Common.{◌≡◌, ℕ, ◌+◌, ◌<◌, length, set, take, sym, ap, ◌∙◌, arith}
use Rattle.sets.specs.Members.{Members}
use Rattle.sets.specs.Places.{member}
use Rattle.pair_shelf.specs.Pairs.{kept, at}
use Rattle.pair_shelf.proofs.Keep.{Sweep, sweep_none, sweep_kept, sweep_gone, carry}
use Rattle.pair_shelf.proofs.pair.keep_steps.Goals as goal
use Rattle.pair_shelf.proofs.pair.keep_steps.Goals.{then-not-touches, else-not-touches}

pub loop-i-init : goal.loop-i-init
loop-i-init c = sweep_none c.args.steps.now (member c.args.places)

pub loop-i-preserved : goal.loop-i-preserved
loop-i-preserved c =
    let m : Members = member c.args.places in
    let i : ℕ = c.loop-i.i in
    let l : i < length c.args.steps.now = omega arith in
    let k : i < length c.loop-i.steps = omega arith in
    elim c.if-not-touches.branch [
      | then-not-touches w ↦
          carry (Sweep c.args.steps.now m (i + 1)) (set c.loop-i.steps c.loop-i.n (at c.loop-i.steps i)) _ (c.loop-i.n + 1) _ w.steps-is w.n-is
          (sweep_kept c.args.steps.now c.loop-i.steps m i c.loop-i.n c.loop-i.invariant l k (sym c.touches.ensures ∙ w.if-not-touches.true))
      | else-not-touches w ↦
          carry (Sweep c.args.steps.now m (i + 1)) c.loop-i.steps _ c.loop-i.n _ w.steps-is w.n-is
          (sweep_gone c.args.steps.now c.loop-i.steps m i c.loop-i.n c.loop-i.invariant l (sym c.touches.ensures ∙ w.if-not-touches.false))
    ]

pub returns : goal.returns
returns c =
    let i = c.loop-i.invariant in
    let e : c.loop-i.i ≡ c.args.len = omega arith in
    record { few = omega (arith, i.low); kept = i.front ∙ ap (λ k. kept (member c.args.places) (take k c.args.steps.now)) e }
