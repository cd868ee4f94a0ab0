use Rattle.std.proofs.Common.{◌≡◌, [], take, refl, ap, ◌∙◌, arith, rules}
use Rattle.std.proofs.lemmas.Result.{err_from_is_err_and}
use Rattle.collector.specs.Pushing.{held}
use Rattle.reader.specs.Drafts.{tests_of}
use Rattle.reader.proofs.Taking.{at_most_one, reached_none, reached_more, reached_all, reached_stop, whole_at}
use Rattle.reader.proofs.draft.Draft.lex.Goals as goal

pub loop-place-init : goal.loop-place-init
loop-place-init g c =
    let items = c.over-items.result in
    let none : held items ≡ [] = ap (λ n. take n items.entries.now) c.over-items.ensures.used in
    (omega arith, omega (arith, c.over-items.ensures.used), refl, refl, reached_none g.N.Notation.lexed c.args.text.now (tests_of c.clear.new.self) (held items) c.clear.ensures.tests none)

pub returns-in_err-lexeme : goal.returns-in_err-lexeme
returns-in_err-lexeme g c =
    let p = err_from_is_err_and c.from_residual.result c.from_residual.ensures.1 in
    let i = c.loop-place.invariant in
    let told = c.in_err-lexeme.ensures in
    rw (p.1, p.2)
    (reached_stop g.N.Notation.lexed c.args.text.now (tests_of c.loop-place.self) (held c.loop-place.items) c.loop-place.place c.in_err-lexeme.field-0.0 i.4
    c.loop-place-test.true told.is)

pub loop-place-preserved : goal.loop-place-preserved
loop-place-preserved g c =
    let i = c.loop-place.invariant in
    let told = c.in_ok-lexeme.ensures in
    let x = c.in_ok-lexeme.lexeme in
    let t = c.take.ensures in (
      told.within.1,
      omega (arith, told.within.0, t.wrote.count, at_most_one x.token c.loop-place.place, i.1),
      t.wrote.same_size ∙ i.2,
      t.wrote.lender ∙ i.3,
      reached_more g.N.Notation.lexed c.args.text.now (tests_of c.loop-place.self) (tests_of c.take.new.self) c.loop-place.items c.take.new.items c.loop-place.place x
          i.4 told.is told.within.0 told.within.1 t,
    )

pub returns : goal.returns
returns g c =
    let i = c.loop-place.invariant in
    let w = reached_all g.N.Notation.lexed c.args.text.now (tests_of c.loop-place.self) (held c.loop-place.items) c.loop-place.place i.4 c.loop-place-test.false i.0 in
    let e = c.over-items.ensures.lender in
    let n = c.used.ensures in
    (omega (arith, i.0, i.1, c.used.ensures), whole_at g.N.Notation.lexed c.args.text.now (tests_of c.loop-place.self) (held c.loop-place.items) _ w (search rules))
