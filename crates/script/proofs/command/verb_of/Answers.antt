use Rattle.std.proofs.Common.{codes, arith}
use Rattle.std.proofs.lemmas.Slice.Eq.{text_from_reads}
use Rattle.script.proofs.command.verb_of.Goals as goal

pub returns-in-pattern : goal.returns-in-pattern
returns-in-pattern c =
    rw (text_from_reads c.args.word.now (codes "pattern") (omega arith) (omega arith, (omega arith, (omega arith, (omega arith, (omega arith, (omega arith, (omega arith, tt))))))))

pub returns-in-passes : goal.returns-in-passes
returns-in-passes c =
    rw (text_from_reads c.args.word.now (codes "passes") (omega arith) (omega arith, (omega arith, (omega arith, (omega arith, (omega arith, (omega arith, tt)))))))

pub returns-in-positions : goal.returns-in-positions
returns-in-positions c =
    rw (text_from_reads c.args.word.now (codes "positions") (omega arith) (omega arith, (omega arith, (omega arith, (omega arith, (omega arith, (omega arith, (omega arith, (omega arith, (omega arith, tt))))))))))
