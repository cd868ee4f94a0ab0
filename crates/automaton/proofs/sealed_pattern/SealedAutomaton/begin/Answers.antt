use Rattle.std.proofs.Common.{◌^◌, ◌<◌, rules}
use Rattle.automaton.proofs.Sealing.{begin_digits}
use Rattle.automaton.proofs.sealed_pattern.SealedAutomaton.begin.Goals as goal

pub returns : goal.returns
returns g c =
    let l : c.single.result.bits < 2 ^ 64 = search rules in
    begin_digits c.single.result l c.single.ensures
