use Rattle.std.proofs.Common.{◌≡◌, None, length, sym, refl, ◌∙◌, subst, arith}
use Rattle.std.proofs.lemmas.Bool.{eqb-true, eqb-false}
use Rattle.std.proofs.lemmas.Result.{err_from_is_err_and}
use Rattle.law.proofs.Maps.{some_not}
use Rattle.search.specs.Remembered.{subject, Ready}
use Rattle.law.specs.Calls.{refusal, Search, Whole}
use Rattle.search.proofs.Doing.{did_refused, did_whole, by_words}
use Rattle.search.proofs.Ends.{whole_is, whole_none, short}
use Rattle.theory.specs.Scans.{whole}
use Rattle.search.proofs.scanner.Scanner.whole.Goals as goal
use Rattle.search.proofs.scanner.Scanner.whole.Goals.{then-is_empty, else-is_empty}

pub returns-in_err-row : goal.returns-in_err-row
returns-in_err-row g c =
    let s = c.args.self.now in
    let p = err_from_is_err_and c.from_residual.result c.from_residual.ensures.1 in
    let did = λ (ok : Ready g.M.Automaton g.S.Shelf g.P.Policy s). did_refused g.M.Automaton g.S.Shelf g.P.Policy g.met.M.Automaton.proper s _ _ c.in_err-row.ensures.refused ok in
    rw (p.1, p.2) (record { did = did; words = λ ok. by_words g.M.Automaton g.S.Shelf g.P.Policy g.met.M.Automaton.proper s _ _ _ ok (did ok); idle = λ _ _. refl; automaton = refl })

pub returns : goal.returns
returns g c =
    let s = c.args.self.now in
    let n = c.scan_ahead-ahead.new.self in
    let r = c.in_ok-row.row.symbols.now in
    let same = c.in_ok-row.ensures.same in
    let a = c.scan_ahead-ahead.ensures in
    let X = subject g.M.Automaton n in
    let i = c.in_ok-row.row.short in
    let is : Ready g.M.Automaton g.S.Shelf g.P.Policy s → c.if-is_empty.is_word ≡ whole X.machine r = λ ok. elim c.if-is_empty.branch [
      | then-is_empty w ↦ w.is_word-is ∙ w.nullable-is_word.ensures ∙ whole_none X r (eqb-true (length r) 0 (sym w.if-is_empty.ensures))
      | else-is_empty w ↦ w.is_word-is ∙ whole_is X r c.scan_ahead-ahead.result.mark (omega (arith, eqb-false (length r) 0 (sym w.if-is_empty.ensures))) (a.reached ok).end_is
    ] in
    let did = λ (ok : Ready g.M.Automaton g.S.Shelf g.P.Policy s). did_whole g.M.Automaton g.S.Shelf g.P.Policy g.met.M.Automaton.proper s n r c.args.row.now _ c.scan_ahead-ahead.result same a.automaton i (is ok) (a.reached ok) in
    record {
      did = did;
      words = λ ok. by_words g.M.Automaton g.S.Shelf g.P.Policy g.met.M.Automaton.proper s _ _ _ ok (did ok);
      idle = λ q h. absurd (some_not q (sym (subst (λ y. refusal (Search (Whole y)) ≡ None) same (short (subject g.M.Automaton s) r i)) ∙ h));
      automaton = a.automaton;
    }
