use Rattle.std.proofs.Common.{◌≡◌, ℕ, ◌<◌, ◌≤◌, min, List, length, take, sym, ap, ◌∙◌, ⊎_elim, arith, length-set}
use Rattle.std.proofs.lemmas.Bool.{cases_lt}
use Rattle.std.proofs.lemmas.List.{take_all}
use Rattle.alphabet.proofs.Filling.{copied_more}
use Rattle.alphabet.proofs.kept.keep.Goals as goal

-- past the end a front is the whole
take_least : {X : Type 0} (xs : List X) (n m : ℕ) → n ≡ min (length xs) m → take n xs ≡ take m xs
take_least xs n m e =
    ⊎_elim (λ (l : length xs < m). take_all n xs (omega arith) ∙ sym (take_all m xs (omega arith))) (λ (l : m ≤ length xs). let f : n ≡ m = omega arith in ap (λ k. take k xs) f) (cases_lt (length xs) m)

pub loop-i-preserved : goal.loop-i-preserved
loop-i-preserved g c =
    let i = c.loop-i.i in
    let x = c.index-tests-i.result in (
      omega (arith, length-set c.loop-i.own i x, c.loop-i.invariant.0),
      copied_more c.loop-i.own c.args.tests.now i x x (omega (arith, c.loop-i.invariant.0)) (omega arith) c.index-tests-i.is c.loop-i.invariant.1,
    )

pub returns : goal.returns
returns g c =
    let e : c.loop-i.i ≡ c.min-used.result = omega arith in
    record {
      few = omega arith;
      same = ap (λ n. take n c.loop-i.own) (sym e) ∙ c.loop-i.invariant.1 ∙ ap (λ n. take n c.args.tests.now) e ∙ take_least c.args.tests.now c.min-used.result (length c.args.own.now) c.min-used.ensures;
    }
