use Rattle.std.proofs.Common.{◌≡◌, get_or, Some, vec_items, ap, ◌∙◌, arith, rules}
use Rattle.std.proofs.lemmas.List.{take_rest}
use Rattle.script.specs.Hex.{hex_of, pair_of, bytes_of}
use Rattle.script.proofs.Pairs.{joined, nothing_yet, pair}
use Rattle.script.proofs.hex.read_hex.Goals as goal

pub loop-rest-init : goal.loop-rest-init
loop-rest-init c = ap (λ l. joined l (bytes_of c.args.text.now)) c.clear.ensures.items ∙ nothing_yet (bytes_of c.args.text.now)

pub loop-rest-preserved : goal.loop-rest-preserved
loop-rest-preserved c =
    let rest = c.loop-rest.rest.now in
    let is : pair_of (hex_of (get_or rest 0 0)) (hex_of (get_or rest 1 0)) ≡ Some c.in_ok-ok_or.field-0 = search rules in
    ap (λ l. joined (vec_items c.push.new.self) (bytes_of l)) (take_rest rest 2)
    ∙ pair (vec_items c.loop-rest.out) rest c.in_ok-ok_or.field-0 (vec_items c.push.new.self) (omega arith) is c.in_ok-push.ensures.items
    ∙ c.loop-rest.invariant
