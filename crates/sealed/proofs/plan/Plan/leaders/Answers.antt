use Rattle.std.proofs.Common.{◌∙◌}
use mathlib.Core.Path.{fun_ext}
use Rattle.sealed.proofs.plan.Plan.leaders.Goals as goal

pub returns : goal.returns
returns c = c.row.ensures ∙ fun_ext (λ p. c.args.self.now.right.2 c.args.q p)
