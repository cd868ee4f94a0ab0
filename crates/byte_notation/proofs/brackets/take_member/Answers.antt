use Rattle.std.proofs.Common.{◌≡◌, ◌+◌, ◌≤◌, None, get_or, drop, ap, ◌∙◌, arith}
use Rattle.byte_notation.specs.Classes.{ranges_of, class_at, passed}
use Rattle.byte_notation.proofs.Fronts.{none_found}
use Rattle.byte_notation.proofs.Steps.{range_behind}
use Rattle.byte_notation.proofs.brackets.take_member.Goals as goal

pub returns-in-Some-2-clause-moved : goal.returns-in-Some-2-clause-moved
returns-in-Some-2-clause-moved c =
    let ts = c.args.text.bytes.now in
    let q = c.args.cursor.now in
    let none : class_at (drop q ts) ≡ None = none_found ranges_of _ c.in_default.ensures.is in
    let same : c.read_class.new.cursor ≡ q = c.in_default.ensures.moved ∙ ap (λ o. passed o q) none in
    let ordered : get_or c.behind-left.result.bytes.now 0 0 ≤ c.in-Some-range_end.high = omega arith in
    let ends =
    range_behind (c.args.text.place + q) q ts c.behind-left.result.bytes.now c.in-Some-range_end.high c.requires none (c.behind-left.ensures.bytes ∙ ap (λ n. drop n ts) same)
    c.in-Some-range_end.ensures.is ordered in
    omega arith
