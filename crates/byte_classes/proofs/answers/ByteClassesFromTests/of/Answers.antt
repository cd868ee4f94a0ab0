use Rattle.byte_classes.specs.Bytewise.{classified}
use Rattle.byte_classes.proofs.answers.ByteClassesFromTests.of.Goals as goal

pub returns-clause-law : goal.returns-clause-law
returns-clause-law c = classified _
