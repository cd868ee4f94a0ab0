use Rattle.std.proofs.Common.{◌≡◌, Some, None, length, take, drop, sym, refl, ap, ◌∙◌, subst, rules}
use Rattle.std.proofs.lemmas.Result.{err_from_is_err_and}
use Rattle.law.specs.Calls.{refusal, Search, Find}
use Rattle.law.proofs.Maps.{some_not}
use Rattle.search.specs.Remembered.{memory, subject, Ready}
use Rattle.search.specs.Scanning.{Collected}
use Rattle.search.proofs.Doing.{did_refused, did_listed, by_words}
use Rattle.search.proofs.Ends.{refused_first, accepted}
use Rattle.search.proofs.scanner.Scanner.list.Goals as goal

pub returns-in_err-row : goal.returns-in_err-row
returns-in_err-row g c =
    let s = c.args.self.now in
    let p = err_from_is_err_and c.from_residual.result c.from_residual.ensures.1 in
    let did = λ (ok : Ready g.M.Automaton g.S.Shelf g.P.Policy s). did_refused g.M.Automaton g.S.Shelf g.P.Policy g.met.M.Automaton.proper s _ _ (refused_first _ _ _ _ c.in_err-row.ensures.refused) ok in
    rw (p.1, p.2) (record { did = did; words = λ ok. by_words g.M.Automaton g.S.Shelf g.P.Policy g.met.M.Automaton.proper s _ _ _ ok (did ok); idle = λ _ _. refl; behind = refl; automaton = refl })

pub returns-in_err-check_from : goal.returns-in_err-check_from
returns-in_err-check_from g c =
    let s = c.args.self.now in
    let p = err_from_is_err_and c.from_residual-in_err-check_from.result c.from_residual-in_err-check_from.ensures.1 in
    let e = subst (λ r. refusal (Search (Find r c.args.from)) ≡ Some c.in_err-check_from.field-0.0) c.in_ok-row.ensures.same c.in_err-check_from.ensures.refused in
    let did = λ (ok : Ready g.M.Automaton g.S.Shelf g.P.Policy s). did_refused g.M.Automaton g.S.Shelf g.P.Policy g.met.M.Automaton.proper s _ _ e ok in
    rw (p.1, p.2) (record { did = did; words = λ ok. by_words g.M.Automaton g.S.Shelf g.P.Policy g.met.M.Automaton.proper s _ _ _ ok (did ok); idle = λ _ _. refl; behind = refl; automaton = refl })

pub returns-clause-did : goal.returns-clause-did
returns-clause-did g c =
    let s = c.args.self.now in
    let n = c.collect.new.self in
    let spans = c.collect.new.spans in
    let e = c.collect.ensures in
    let i = c.in_ok-check_from.ensures.inside in
    let r = c.in_ok-row.row.symbols.now in
    let entries = c.args.entries.now in
    let used = c.collect.result.written in
    let size : length c.over-spans.result.entries.now ≡ length entries = ap length c.over-spans.ensures.same in
    λ ok.
    did_listed g.M.Automaton g.S.Shelf g.P.Policy g.met.M.Automaton.proper s n r c.args.row.now (length entries) c.args.from _ c.collect.result c.in_ok-row.ensures.same e.automaton c.in_ok-row.row.short i
    (subst (λ y. Collected g.M.Automaton g.S.Shelf g.P.Policy (memory g.S.Shelf g.P.Policy s) r (length entries) c.args.from y c.collect.result n)
    (ap (λ k. take k spans.entries.now) (sym e.written) ∙ ap (take used) (search rules))
    (subst (λ y. Collected g.M.Automaton g.S.Shelf g.P.Policy (memory g.S.Shelf g.P.Policy s) r y c.args.from (take spans.used spans.entries.now) c.collect.result n) size (e.listed ok)))

pub returns-clause-words : goal.returns-clause-words
returns-clause-words g c = λ ok. by_words g.M.Automaton g.S.Shelf g.P.Policy g.met.M.Automaton.proper c.args.self.now _ _ _ ok (returns-clause-did g c ok)

pub returns-clause-idle : goal.returns-clause-idle
returns-clause-idle g c =
    let i = c.in_ok-check_from.ensures.inside in
    λ q h. absurd (some_not q (sym (subst (λ y. refusal (Search (Find y c.args.from)) ≡ None) c.in_ok-row.ensures.same (accepted (subject g.M.Automaton c.args.self.now) c.in_ok-row.row.symbols.now c.args.from c.in_ok-row.row.short i)) ∙ h))

pub returns-clause-behind : goal.returns-clause-behind
returns-clause-behind g c =
    let spans = c.collect.new.spans in
    let e = c.collect.ensures in
    let used = c.collect.result.written in
    ap (drop used) (search rules) ∙ ap (λ k. drop k spans.entries.now) e.written ∙ e.filled.behind ∙ ap (λ k. drop k c.over-spans.result.entries.now) (sym e.written) ∙ ap (drop used) c.over-spans.ensures.same
