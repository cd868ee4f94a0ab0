use Rattle.std.proofs.Common.{length, refl}
use Rattle.law.specs.Calls.{Dropped as Drops}
use Rattle.search.specs.Calling.{found, listed, told}
use Rattle.series.specs.declared.answer.Answer.TheVariants.{Found, Listed, Whole, Dropped}
use Rattle.series.proofs.Making.{made}
use Rattle.series.proofs.series.make.Goals as goal

pub returns-in-Find-clause-called : goal.returns-in-Find-clause-called
returns-in-Find-clause-called g c =
    made g.M.Automaton g.S.Shelf g.P.Policy c.args.s.now c.find.new.self (length c.args.entries.now) c.args.call.now _ found (λ x. Found x) c.args.entries.now c.find.result c.map.result (λ x. refl) c.in-Find.is c.map.ensures.cases (c.find.ensures.called)

pub returns-in-List-clause-called : goal.returns-in-List-clause-called
returns-in-List-clause-called g c =
    made g.M.Automaton g.S.Shelf g.P.Policy c.args.s.now c.list.new.self (length c.args.entries.now) c.args.call.now _ (listed c.list.new.entries) (λ x. Listed x) c.list.new.entries c.list.result c.map-in-List.result (λ x. refl) c.in-List.is c.map-in-List.ensures.cases (c.list.ensures.called)

pub returns-in-Whole-clause-called : goal.returns-in-Whole-clause-called
returns-in-Whole-clause-called g c =
    made g.M.Automaton g.S.Shelf g.P.Policy c.args.s.now c.whole.new.self (length c.args.entries.now) c.args.call.now _ told (λ x. Whole x) c.args.entries.now c.whole.result c.map-in-Whole.result (λ x. refl) c.in-Whole.is c.map-in-Whole.ensures.cases (c.whole.ensures.called)

pub returns-in-Limit-clause-called : goal.returns-in-Limit-clause-called
returns-in-Limit-clause-called g c =
    made g.M.Automaton g.S.Shelf g.P.Policy c.args.s.now c.limit.new.self (length c.args.entries.now) c.args.call.now _ (λ x. Drops x) (λ x. Dropped x) c.args.entries.now c.limit.result c.map-in-Limit.result (λ x. refl) c.in-Limit.is c.map-in-Limit.ensures.cases (c.limit.ensures.called)

pub returns-in-Clear-clause-called : goal.returns-in-Clear-clause-called
returns-in-Clear-clause-called g c = rw c.in-Clear.is c.clear.ensures.called
