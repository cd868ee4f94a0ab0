use Rattle.std.proofs.Common.{◌≡◌, length, ap, ◌∙◌, arith, rules}
use Rattle.symbols.specs.Tests.{passes_byte}
use Rattle.symbols.specs.ByteSets.{others}
use Rattle.symbols.proofs.Passing.{turn_more, turn_all, inverts}
use Rattle.symbols.proofs.ByteTest.invert.Goals as goal

pub loop-part-preserved : goal.loop-part-preserved
loop-part-preserved c =
    let n : length c.args.self.now.bits ≡ 32 = search rules in
    turn_more c.args.self.now.bits c.loop-part.part-items c.loop-part.part-index n (omega arith) c.loop-part.invariant

pub returns : goal.returns
returns c =
    let n : length c.args.self.now.bits ≡ 32 = search rules in
    let bits : c.loop-part.part-items ≡ (others c.args.self.now).bits = c.loop-part.invariant ∙ turn_all c.args.self.now.bits c.loop-part.part-index n (omega arith) in
    let e : record { bits = c.loop-part.part-items } ≡ others c.args.self.now = ap (λ parts. record { bits = parts }) bits in
    record { is = e; law = λ x h. ap (λ t. passes_byte t x) e ∙ inverts c.args.self.now n x h }
