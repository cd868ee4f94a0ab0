use Rattle.std.proofs.Common.{◌∙◌}
use Rattle.automaton.proofs.Sealing.{common_digits}
use Rattle.automaton.proofs.sealed_pattern.SealedAutomaton.has_last.Goals as goal

pub returns : goal.returns
returns g c = c.ends.ensures ∙ common_digits c.args.set _
