use Rattle.std.proofs.Common.{◌≡◌, ◌<◌, [], length, take, get_or, ap, ◌∙◌, sym, arith, rules}
use Rattle.std.proofs.lemmas.List.{take_more, flat_map_more}
use Rattle.std.proofs.Output.{has_written_append, has_written_of_eq}
use Rattle.std.proofs.lemmas.Fmt.{hex_byte as two_digits}
use Rattle.std.specs.List.{flat_map}
use Rattle.symbols.specs.Printing.{hex_byte}
use Rattle.symbols.proofs.printing.ByteTestDisplay.fmt.Goals as goal

pub loop-part-preserved : goal.loop-part-preserved
loop-part-preserved g c =
    let xs = c.args.self.now.bits in
    let i = c.loop-part.part-index in
    let n : length xs ≡ 32 = search rules in
    let inside : i < length xs = omega arith in
    λ p. has_written_of_eq _ _ _ _ _ (flat_map_more hex_byte [] (take i xs) (get_or xs i 0) ∙ ap (flat_map hex_byte) (sym (take_more xs i 0 inside)))
    (has_written_append _ _ _ _ _ _ (c.loop-part.invariant p) (grind (arith, two_digits)))
