use Rattle.std.proofs.Common.{◌≡◌, true, false, length, drop, codes, sym, ap, ◌∙◌, ◌&&◌}
use Rattle.byte_notation.specs.Classes.{starts}
use Rattle.byte_notation.proofs.Fronts.{stripped, compared, starts_append}
use Rattle.byte_notation.proofs.classes.begins_named.Goals as goal

pub returns-in-Some-clause-is : goal.returns-in-Some-clause-is
returns-in-Some-clause-is c =
    let name : starts c.args.name.now c.args.text.now ≡ true = sym (stripped c.args.name.now c.args.text.now) ∙ c.in-Some.ensures.cases.0 in
    c.starts_with.ensures.value ∙ compared (codes ":]") c.in-Some.behind.now
    ∙ ap (starts (codes ":]")) c.in-Some.ensures.cases.1
    ∙ sym (starts_append c.args.name.now (codes ":]") c.args.text.now ∙ ap (λ b. b && starts (codes ":]") (drop (length c.args.name.now) c.args.text.now)) name)

pub returns-in-None-clause-is : goal.returns-in-None-clause-is
returns-in-None-clause-is c =
    let name : starts c.args.name.now c.args.text.now ≡ false = sym (stripped c.args.name.now c.args.text.now) ∙ c.in-None.ensures.cases in
    sym (starts_append c.args.name.now (codes ":]") c.args.text.now ∙ ap (λ b. b && starts (codes ":]") (drop (length c.args.name.now) c.args.text.now)) name)
