use Rattle.std.proofs.Common.{◌∙◌}
use Rattle.automaton.proofs.Sealing.{common_digits}
use Rattle.automaton.proofs.sealed_pattern.SealedAutomaton.has_first.Goals as goal

pub returns : goal.returns
returns g c = c.begins.ensures ∙ common_digits c.args.set _
