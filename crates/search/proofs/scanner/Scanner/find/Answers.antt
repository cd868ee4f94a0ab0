use Rattle.std.proofs.Common.{◌≡◌, Some, None, sym, refl, ◌∙◌, subst}
use Rattle.std.proofs.lemmas.Result.{err_from_is_err_and}
use Rattle.law.specs.Calls.{refusal, Search, Find}
use Rattle.law.proofs.Maps.{some_not}
use Rattle.search.specs.Remembered.{subject, Ready}
use Rattle.search.proofs.Doing.{did_refused, did_found, by_words}
use Rattle.search.proofs.Ends.{refused_first, accepted}
use Rattle.search.proofs.scanner.Scanner.find.Goals as goal

pub returns-in_err-row : goal.returns-in_err-row
returns-in_err-row g c =
    let s = c.args.self.now in
    let p = err_from_is_err_and c.from_residual.result c.from_residual.ensures.1 in
    let did = λ (ok : Ready g.M.Automaton g.S.Shelf g.P.Policy s). did_refused g.M.Automaton g.S.Shelf g.P.Policy g.met.M.Automaton.proper s _ _ (refused_first _ _ _ _ c.in_err-row.ensures.refused) ok in
    rw (p.1, p.2) (record { did = did; words = λ ok. by_words g.M.Automaton g.S.Shelf g.P.Policy g.met.M.Automaton.proper s _ _ _ ok (did ok); idle = λ _ _. refl; automaton = refl })

pub returns-in_err-check_from : goal.returns-in_err-check_from
returns-in_err-check_from g c =
    let s = c.args.self.now in
    let p = err_from_is_err_and c.from_residual-in_err-check_from.result c.from_residual-in_err-check_from.ensures.1 in
    let e = subst (λ r. refusal (Search (Find r c.args.from)) ≡ Some c.in_err-check_from.field-0.0) c.in_ok-row.ensures.same c.in_err-check_from.ensures.refused in
    let did = λ (ok : Ready g.M.Automaton g.S.Shelf g.P.Policy s). did_refused g.M.Automaton g.S.Shelf g.P.Policy g.met.M.Automaton.proper s _ _ e ok in
    rw (p.1, p.2) (record { did = did; words = λ ok. by_words g.M.Automaton g.S.Shelf g.P.Policy g.met.M.Automaton.proper s _ _ _ ok (did ok); idle = λ _ _. refl; automaton = refl })

pub returns : goal.returns
returns g c =
    let s = c.args.self.now in
    let r = c.in_ok-row.row in
    let same = c.in_ok-row.ensures.same in
    let e = c.locate.ensures in
    let i = c.in_ok-check_from.ensures.inside in
    let did = λ (ok : Ready g.M.Automaton g.S.Shelf g.P.Policy s). did_found g.M.Automaton g.S.Shelf g.P.Policy g.met.M.Automaton.proper s c.locate.new.self r.symbols.now c.args.row.now c.args.from c.locate.result same e.automaton r.short i (e.located ok) in
    record {
      did = did;
      words = λ ok. by_words g.M.Automaton g.S.Shelf g.P.Policy g.met.M.Automaton.proper s _ _ _ ok (did ok);
      idle = λ q h. absurd (some_not q (sym (subst (λ y. refusal (Search (Find y c.args.from)) ≡ None) same (accepted (subject g.M.Automaton s) r.symbols.now c.args.from r.short i)) ∙ h));
      automaton = e.automaton;
    }
