use Rattle.std.proofs.Common.{codes, arith}
use Rattle.std.proofs.lemmas.Slice.Eq.{text_from_reads}
use Rattle.script.proofs.command.kind_of.Goals as goal

pub returns-in-events : goal.returns-in-events
returns-in-events c =
    rw (text_from_reads c.args.word.now (codes "events") (omega arith) (omega arith, (omega arith, (omega arith, (omega arith, (omega arith, (omega arith, tt)))))))
