use Rattle.event_classes.specs.Cutting.{cut_law}
use Rattle.event_classes.proofs.answers.EventCutsFromTests.of.Goals as goal

pub returns-clause-law : goal.returns-clause-law
returns-clause-law c = cut_law _
