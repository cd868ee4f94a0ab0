use Rattle.std.proofs.Common.{◌≡◌, ◌<◌, ◌≤◌, length, Some, None, sym, ap, ◌∙◌, arith, option_map}
use Rattle.byte_notation.specs.Classes.{names, ranges, name_of, ranges_of, class_named}
use Rattle.byte_notation.proofs.Eight.{eight}
use Rattle.byte_notation.proofs.Fronts.{name_here, name_further, name_none, eight_names}
use Rattle.byte_notation.proofs.classes.class_named.Goals as goal

pub returns-then-begins_named : goal.returns-then-begins_named
unfolding names ranges
returns-then-begins_named c =
    let i = c.loop-class.class-index in
    let room : i < length names = omega (arith, eight_names) in
    let found : class_named c.args.text.now ≡ Some i =
    sym c.loop-class.invariant ∙ name_here names c.args.text.now _ i room (sym c.begins_named.ensures.is ∙ c.if-begins_named.true)
    (eight i c.loop-class-test.true (λ e. simp e) (λ e. simp e) (λ e. simp e) (λ e. simp e) (λ e. simp e) (λ e. simp e) (λ e. simp e) (λ e. simp e)) in
    record {
      name = rw found (eight i c.loop-class-test.true (λ e. simp e) (λ e. simp e) (λ e. simp e) (λ e. simp e) (λ e. simp e) (λ e. simp e) (λ e. simp e) (λ e. simp e));
      ranges = rw found (eight i c.loop-class-test.true (λ e. simp e) (λ e. simp e) (λ e. simp e) (λ e. simp e) (λ e. simp e) (λ e. simp e) (λ e. simp e) (λ e. simp e));
      fits = c.begins_named.ensures.fits c.if-begins_named.true;
    }

pub loop-class-preserved : goal.loop-class-preserved
unfolding names
loop-class-preserved c =
    let i = c.loop-class.class-index in
    let room : i < length names = omega (arith, eight_names) in
    sym (name_further names c.args.text.now _ i room (sym c.begins_named.ensures.is ∙ c.if-begins_named.false)
    (eight i c.loop-class-test.true (λ e. simp e) (λ e. simp e) (λ e. simp e) (λ e. simp e) (λ e. simp e) (λ e. simp e) (λ e. simp e) (λ e. simp e)))
    ∙ c.loop-class.invariant

pub returns : goal.returns
returns c =
    let past : length names ≤ c.loop-class.class-index = omega (arith, eight_names) in
    let none : class_named c.args.text.now ≡ None = sym c.loop-class.invariant ∙ name_none names c.args.text.now c.loop-class.class-index past in
    record { name = ap (option_map name_of) (sym none); ranges = ap (option_map ranges_of) (sym none); fits = tt }
