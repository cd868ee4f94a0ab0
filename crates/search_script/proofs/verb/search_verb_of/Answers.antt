use Rattle.std.proofs.Common.{codes, arith}
use Rattle.std.proofs.lemmas.Slice.Eq.{text_from_reads}
use Rattle.search_script.proofs.verb.search_verb_of.Goals as goal

pub returns-in-memory : goal.returns-in-memory
returns-in-memory c =
    rw (text_from_reads c.args.word.now (codes "memory") (omega arith) (omega arith, (omega arith, (omega arith, (omega arith, (omega arith, (omega arith, tt)))))))
