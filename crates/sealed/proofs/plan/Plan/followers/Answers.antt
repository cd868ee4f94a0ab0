use Rattle.std.proofs.Common.{◌∙◌}
use mathlib.Core.Path.{fun_ext}
use Rattle.sealed.proofs.plan.Plan.followers.Goals as goal

pub returns : goal.returns
returns c = c.row.ensures ∙ fun_ext (λ q. c.args.self.now.right.1 c.args.p q)
