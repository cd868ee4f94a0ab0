use Rattle.std.proofs.Common.{◌^◌, ◌<◌, rules}
use Rattle.automaton.proofs.Sealing.{empty_digits}
use Rattle.automaton.proofs.sealed_pattern.SealedAutomaton.is_empty.Goals as goal

pub returns : goal.returns
returns g c =
    let l : c.args.set.bits < 2 ^ 64 = search rules in
    empty_digits c.args.set c.is_empty.result l c.is_empty.ensures
