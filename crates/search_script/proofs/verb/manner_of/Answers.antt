use Rattle.std.proofs.Common.{codes, arith}
use Rattle.std.proofs.lemmas.Slice.Eq.{text_from_reads}
use Rattle.search_script.proofs.verb.manner_of.Goals as goal

pub returns-in-record : goal.returns-in-record
returns-in-record c =
    rw (text_from_reads c.args.word.now (codes "record") (omega arith) (omega arith, (omega arith, (omega arith, (omega arith, (omega arith, (omega arith, tt)))))))

pub returns-in-events : goal.returns-in-events
returns-in-events c =
    rw (text_from_reads c.args.word.now (codes "events") (omega arith) (omega arith, (omega arith, (omega arith, (omega arith, (omega arith, (omega arith, tt)))))))

pub returns-in-114 : goal.returns-in-114
returns-in-114 c =
    rw (text_from_reads c.args.word.now (codes "record-hex") (omega arith) (omega arith, (omega arith, (omega arith, (omega arith, (omega arith, (omega arith, (omega arith, (omega arith, (omega arith, (omega arith, tt)))))))))))

pub returns-in-114-2 : goal.returns-in-114-2
returns-in-114-2 c =
    rw (text_from_reads c.args.word.now (codes "record-repeat") (omega arith) (omega arith, (omega arith, (omega arith, (omega arith, (omega arith, (omega arith, (omega arith, (omega arith, (omega arith, (omega arith, (omega arith, (omega arith, (omega arith, tt))))))))))))))

pub returns-in-114-3 : goal.returns-in-114-3
returns-in-114-3 c =
    rw (text_from_reads c.args.word.now (codes "record-file") (omega arith) (omega arith, (omega arith, (omega arith, (omega arith, (omega arith, (omega arith, (omega arith, (omega arith, (omega arith, (omega arith, (omega arith, tt))))))))))))

pub returns-in-101 : goal.returns-in-101
returns-in-101 c =
    rw (text_from_reads c.args.word.now (codes "events-repeat") (omega arith) (omega arith, (omega arith, (omega arith, (omega arith, (omega arith, (omega arith, (omega arith, (omega arith, (omega arith, (omega arith, (omega arith, (omega arith, (omega arith, tt))))))))))))))

pub returns-in-101-2 : goal.returns-in-101-2
returns-in-101-2 c =
    rw (text_from_reads c.args.word.now (codes "events-file") (omega arith) (omega arith, (omega arith, (omega arith, (omega arith, (omega arith, (omega arith, (omega arith, (omega arith, (omega arith, (omega arith, (omega arith, tt))))))))))))
