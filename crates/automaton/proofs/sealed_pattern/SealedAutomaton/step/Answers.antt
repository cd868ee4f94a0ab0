use Rattle.std.proofs.Common.{◌^◌, ◌<◌, sym, ap, ◌∙◌, rules}
use Rattle.sealed.specs.Plans.{positions_of}
use Rattle.law.specs.Subject.{leads}
use Rattle.automaton.specs.Subjects.{sealed_subject}
use Rattle.automaton.proofs.Sealing.{is_set, ahead_digits, back_digits}
use Rattle.automaton.proofs.sealed_pattern.SealedAutomaton.step.Goals as goal

pub returns-in-Ahead : goal.returns-in-Ahead
returns-in-Ahead g c =
    λ a fit cl.
    let s = c.args.self.now in
    let r = c.ahead.result in
    let l : r.bits < 2 ^ 64 = search rules in
    is_set r _ _ l (c.ahead.ensures.symbol a fit cl) (λ q _. ahead_digits (g.A.Alphabet.passes s.alphabet) (positions_of s.plan) c.args.set a q)
    ∙ ap (λ d. leads (sealed_subject g.A.Alphabet s) d c.args.set a) (sym c.in-Ahead.is)

pub returns-in-Back : goal.returns-in-Back
returns-in-Back g c =
    λ a fit cl.
    let s = c.args.self.now in
    let r = c.back.result in
    let l : r.bits < 2 ^ 64 = search rules in
    is_set r _ _ l (c.back.ensures.symbol a fit cl) (λ q _. back_digits (g.A.Alphabet.passes s.alphabet) (positions_of s.plan) c.args.set a q)
    ∙ ap (λ d. leads (sealed_subject g.A.Alphabet s) d c.args.set a) (sym c.in-Back.is)
