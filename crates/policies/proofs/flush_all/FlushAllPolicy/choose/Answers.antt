use Rattle.std.proofs.Common.{sym, refl, ap, ◌∙◌}
use Rattle.sets.specs.Places.{member}
use Rattle.policies.proofs.Ways.{others_may, may_others}
use Rattle.policies.proofs.flush_all.FlushAllPolicy.choose.Goals as goal

pub returns : goal.returns
returns c =
    let s = c.args.self.now in
    record {
      same = refl;
      within = λ k h. others_may (member s.live) c.args.held k (sym (ap (λ f. f k) c.without_held.ensures) ∙ h);
      some = λ k h. (k, ap (λ f. f k) c.without_held.ensures ∙ may_others (member s.live) c.args.held k h);
      hears = (refl, c.without_held.ensures);
    }
