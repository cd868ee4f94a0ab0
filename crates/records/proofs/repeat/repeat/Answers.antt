use Rattle.std.proofs.Common.{◌≡◌, length, vec_items, ap, ◌∙◌, arith}
use Rattle.std.proofs.lemmas.Bool.Decides.{nat_tests}
use Rattle.records.proofs.Repeats.{no_symbols, fits, too_many, empty, more}
use Rattle.records.specs.Copies.{copies}
use Rattle.records.proofs.repeat.repeat.Goals as goal

pub returns-then-is_empty : goal.returns-then-is_empty
returns-then-is_empty g c =
    let none : length c.args.piece.now ≡ 0 = grind (arith, nat_tests) in
    (no_symbols c.args.count (length c.args.piece.now) none, c.clear.ensures.items ∙ empty c.args.count c.args.piece.now none)

pub returns-then-count-piece : goal.returns-then-count-piece
returns-then-count-piece g c =
    let some : length c.args.piece.now ≡ 0 → ⊥ = grind (arith, nat_tests) in
    (too_many c.args.count (length c.args.piece.now) 16777216 some c.if-count-piece.true, c.clear.ensures.items)

pub loop-preserved : goal.loop-preserved
loop-preserved g c =
    more (vec_items c.loop.out) (vec_items c.extend_from_slice.new.self) c.args.piece.now c.loop.counter c.loop.invariant c.in_ok-extend_from_slice.ensures.items

pub returns : goal.returns
returns g c =
    let all : c.loop.counter ≡ c.args.count = omega arith in
    let some : length c.args.piece.now ≡ 0 → ⊥ = grind (arith, nat_tests) in (
      fits c.args.count (length c.args.piece.now) 16777216 some c.if-count-piece.false,
      c.loop.invariant ∙ ap (λ n. copies n c.args.piece.now) all,
    )
