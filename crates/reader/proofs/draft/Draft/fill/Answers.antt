use Rattle.std.proofs.Common.{take}
use Rattle.std.proofs.lemmas.Result.{err_from_is_err_and}
use Rattle.reader.specs.Drafts.{tests_of, codes_of}
use Rattle.reader.proofs.Understood.{stopped, whole}
use Rattle.reader.proofs.draft.Draft.fill.Goals as goal

pub returns-in_err-count : goal.returns-in_err-count
returns-in_err-count g c =
    let p = err_from_is_err_and c.from_residual.result c.from_residual.ensures.1 in
    rw (p.1, p.2)
    (stopped g.N.Notation.lexed c.args.text.now c.requires c.in_err-count.field-0.0 (tests_of c.lex.new.self) (codes_of c.lex.new.self) c.in_err-count.ensures)

pub returns : goal.returns
returns g c =
    let d = c.check.new.self in
    whole g.N.Notation.lexed c.args.text.now c.requires (tests_of c.lex.new.self) (tests_of d) (take c.in_ok-count.count c.lex.new.space) (codes_of d) c.check.result
    c.in_ok-count.ensures.1 c.check.ensures.tests c.check.ensures.checked
