use Rattle.std.proofs.Common.{rules, ◌≡◌, None, ◌⊎◌, sym, refl, inl, inr}
use Rattle.search.specs.Remembered.{subject}
use Rattle.search.proofs.Moves.{plain_moved, built_moved}
use Rattle.search.proofs.Hearing.{build_plain}
use Rattle.search.proofs.scanner.Scanner.build.Goals as goal
use Rattle.search.proofs.scanner.Scanner.build.Goals.{in_default-via-in-Some+in_default, in_default-via-in_default}

pub returns-in_default-clause-moved : goal.returns-in_default-clause-moved
returns-in_default-clause-moved g c =
    let here = c.args.here in
    let there = c.seat-there.result in
    let lost : (here.place ≡ None) ⊎ (there.place ≡ None) = elim c.in_default.branch [
      | in_default-via-in-Some+in_default w ↦ inr w.in_default.is-1
      | in_default-via-in_default w ↦ inl w.in_default.is-0
    ] in
    λ m a ok right at u fit cl.
    plain_moved (subject g.M.Automaton c.args.self.now) m _ _ c.args.direction c.args.set c.step-target.result a here.place there.place here.gone there.gone c.args.class c.plain.result
    ok fit cl (c.step-target.ensures a fit (sym cl)) at u c.seat-there.ensures.seated lost c.plain.ensures.cursor c.plain.ensures.counts

pub returns-in_default-clause-heard : goal.returns-in_default-clause-heard
returns-in_default-clause-heard g c =
    build_plain g.S.Shelf g.P.Policy c.args.self.now c.args.direction c.args.here.place c.seat-there.new.self c.step-target.result c.seat-there.result.place c.plain.result.cursor c.plain.ensures.cursor c.seat-there.ensures.heard

pub returns-clause-moved : goal.returns-clause-moved
returns-clause-moved g c =
    let s = c.args.self.now in
    let here = c.args.here in
    let there = c.seat-there.result in
    let e = c.seat-there.ensures in
    λ m a ok right at u fit cl.
    built_moved (subject g.M.Automaton s) (g.met.M.Automaton.proper s.automaton.now) m _ _ _ c.args.direction c.args.set c.step-target.result a here.place there.place here.gone there.gone c.note_step-more.result c.args.class c.in-Some-Some.p c.in-Some-Some.t _
    ok fit cl (c.step-target.ensures a fit (sym cl)) at u e.seated c.in-Some-Some.is-0 c.in-Some-Some.is-1 (c.note_step-more.ensures.noted (e.kept.counts right)) refl (search rules)
