use Rattle.std.proofs.Common.{sym, ap, ◌∙◌}
use mathlib.Core.Path.{fun_ext}
use Rattle.sets.specs.Members.{shared, below}
use Rattle.sets.specs.Positions.{holds, width}
use Rattle.sealed.specs.Plans.{by_class}
use Rattle.sealed.proofs.Stepping.{ahead_by}
use Rattle.sealed.proofs.sealing.Sealed.ahead.Goals as goal

pub returns : goal.returns
returns g c =
    let a = c.args.self.now in
    record {
      class = ahead_by a.plan (holds c.args.set) c.passing.result (by_class (g.A.Alphabet.accepts a.alphabet)) c.args.class c.passing.ensures (holds c.ahead.result) c.ahead.ensures;
      symbol = λ t fits same.
          ahead_by a.plan (holds c.args.set) c.passing.result (g.A.Alphabet.passes a.alphabet) t
          (c.passing.ensures ∙ ap (shared (below width)) (fun_ext (λ q. ap (λ k. g.A.Alphabet.accepts a.alphabet k q) (sym same) ∙ g.met.A.Alphabet.agree a.alphabet q t fits)))
          (holds c.ahead.result) c.ahead.ensures;
    }
