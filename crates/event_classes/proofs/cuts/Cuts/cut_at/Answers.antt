use Rattle.std.proofs.Common.{◌≡◌, sym, ◌∙◌, ap, arith}
use Rattle.event_classes.specs.Cuts.{cut}
use Rattle.event_classes.specs.Cutting.{cut_ascending}
use Rattle.event_classes.proofs.Inserting.{cut_searched, cut_inserted}
use Rattle.event_classes.proofs.cuts.Cuts.cut_at.Goals as goal

inserted : (c : goal.After-insert) → c.insert.new.self.items ≡ cut c.args.code c.self.inside.codes.items
inserted c =
    cut_inserted c.args.code c.in-Err.place c.deref.result.now c.self.inside.codes.items _ c.binary_search.result c.self.invariant (omega arith) (omega arith) c.deref.ensures.0 c.in-Err.is
    c.binary_search.ensures.position c.insert.ensures.items

pub returns-in-Err : goal.returns-in-Err
returns-in-Err c = inserted c ∙ ap (cut c.args.code) c.self.view_is

pub returns-in_default : goal.returns-in_default
returns-in_default c =
    sym c.self.view_is
    ∙ cut_searched c.args.code c.in_default.field-0 c.deref.result.now c.self.inside.codes.items c.binary_search.result c.self.invariant (omega arith) (omega arith) c.deref.ensures.0 c.in_default.is
    c.binary_search.ensures.position
    ∙ ap (cut c.args.code) c.self.view_is

pub invariant_of-self : goal.invariant_of-self
invariant_of-self c = rw (inserted c) (cut_ascending c.args.code c.self.inside.codes.items c.self.invariant)
