use Rattle.std.proofs.Common.{◌≡◌, zero, ◌+◌, ◌-◌, ◌<◌, ◌≤◌, ◌||◌, eqb, sym, refl, ap, ◌∙◌, ⊎_elim, arith}
use Rattle.std.proofs.lemmas.Bool.{cases_lt}
use Rattle.symbols.specs.Tests.{passes_byte}
use Rattle.symbols.specs.ByteSets.{with_bytes, with_range}
use Rattle.symbols.proofs.Passing.{below, below_none, range_more, range_last, range_none, adds_more, adds_last, adds_none}
use Rattle.symbols.proofs.ByteTest.insert_range.Goals as goal

pub loop-byte-init : goal.loop-byte-init
loop-byte-init c =
    let e : c.args.low - c.args.low ≡ zero = omega arith in
    (refl, λ x. below_none c.args.low x (passes_byte c.args.self.now x) ∙ ap (λ n. below c.args.low n x || passes_byte c.args.self.now x) (sym e))

pub loop-byte-preserved : goal.loop-byte-preserved
loop-byte-preserved c =
    let h : c.loop-byte.byte ≤ c.args.high = omega arith in (
      ap (λ t. with_bytes t (c.loop-byte.byte + 1) (c.args.high + 1 - (c.loop-byte.byte + 1))) c.insert.ensures.is
          ∙ sym (range_more c.loop-byte.self c.loop-byte.byte c.args.high h)
          ∙ c.loop-byte.invariant.0,
      λ x.
          c.insert.ensures.law x
          ∙ ap (λ p. eqb x c.loop-byte.byte || p) (c.loop-byte.invariant.1 x)
          ∙ adds_more c.args.low c.loop-byte.byte x (passes_byte c.args.self.now x) c.loop-byte.auto.byte,
    )

pub returns-2 : goal.returns-2
returns-2 c =
    let end : c.args.high ≤ c.loop-byte.byte = omega arith in
    record {
      is =
          c.insert.ensures.is
          ∙ sym (range_last c.loop-byte.self c.loop-byte.byte c.args.high c.loop-byte-test.true end)
          ∙ c.loop-byte.invariant.0;
      law = λ x.
          c.insert.ensures.law x
          ∙ ap (λ p. eqb x c.loop-byte.byte || p) (c.loop-byte.invariant.1 x)
          ∙ adds_last c.args.low c.loop-byte.byte c.args.high x (passes_byte c.args.self.now x) c.loop-byte.auto.byte c.loop-byte-test.true end;
    }

pub returns : goal.returns
returns c =
    let e : c.loop-byte.self ≡ with_range c.args.self.now c.args.low c.args.high =
    sym (range_none c.loop-byte.self c.loop-byte.byte c.args.high c.loop-byte-test.false) ∙ c.loop-byte.invariant.0 in
    let low : c.args.high < c.args.low =
    ⊎_elim
    (λ (h : c.args.high < c.args.low). h)
    (λ (h : c.args.low ≤ c.args.high). let k = c.loop-byte.auto.byte-end h in omega arith)
    (cases_lt c.args.high c.args.low) in
    record {
      is = e;
      law = λ x.
          ap (λ t. passes_byte t x) (e ∙ range_none c.args.self.now c.args.low c.args.high low)
          ∙ adds_none c.args.low c.args.high x (passes_byte c.args.self.now x) low;
    }
