use Rattle.std.proofs.Common.{eqb, get_or, sym, ◌∙◌}
use Rattle.std.proofs.Math.Bool.{and-true}
use Rattle.sets.proofs.Known.{same_bits}
use Rattle.search.proofs.Views.{same_bool}
use Rattle.search.specs.Remembered.{no_set}
use Rattle.search.proofs.scanner.Scanner.holds_at.Goals as goal

pub returns : goal.returns
returns g c =
    let s = c.args.self.now in
    let e = same_bits (get_or s.sets c.args.place no_set) c.args.set in
    let q = c.eq.ensures ∙ and-true (eqb (get_or s.sets c.args.place no_set).bits c.args.set.bits) in
    (λ h. (sym c.has.ensures ∙ c.if-not-has.false, e.0 (sym q ∙ h), sym c.has-2.ensures ∙ same_bool c.has-2.result c.is_back.result c.if-has-is_back.false ∙ c.is_back.ensures), λ w. q ∙ e.1 w.1)
