use Rattle.std.proofs.Common.{[], ap, ◌∙◌, replicate}
use Rattle.theory.specs.Seal.{seal, or_none}
use Rattle.sealed.specs.Assembling.{stack}
use Rattle.sealed.specs.Tables.{entry}
use Rattle.sealed.proofs.Linking.{entry_none}
use Rattle.sealed.proofs.assembly.Assembly.new.Goals as goal

pub returns-clause-rest : goal.returns-clause-rest
returns-clause-rest c = λ cs.
    ap (λ xs. or_none (seal cs 1 (stack xs) (entry (replicate 64 c.empty.result)))) c.new.ensures
    ∙ ap (λ f. or_none (seal cs 1 [] f)) (entry_none c.empty.result c.empty.ensures)
