use Rattle.std.proofs.Common.{sym, ap, ◌∙◌}
use Rattle.reader.specs.Drafts.{tests_of, codes_of}
use Rattle.reader.specs.Reading.{answer, tests_read, codes_read}
use Rattle.reader.proofs.Understood.{too_long}
use Rattle.reader.proofs.draft.Draft.read.Goals as goal

pub returns-then-text-gt-MOST_BYTES : goal.returns-then-text-gt-MOST_BYTES
returns-then-text-gt-MOST_BYTES g c =
    let d = c.clear.new.self in
    let f = too_long g.N.Notation.lexed c.args.text.now c.if-text-gt-MOST_BYTES.true (tests_of d) (codes_of d) in
    record {
      answer = ap answer (sym f.meaning);
      tests = c.clear.ensures.tests ∙ ap tests_read (sym f.meaning);
      codes = c.clear.ensures.codes ∙ ap codes_read (sym f.meaning);
      law = f.law;
    }
