use Rattle.std.proofs.Common.{◌≡◌, get_or, ◌∙◌, arith, rules}
use Rattle.items.specs.declared.Item.{Item}
use Rattle.grammar.specs.Grammar.{at}
use Rattle.grammar.specs.Memory.{state_of}
use Rattle.grammar.specs.Parse.{step}
use Rattle.grammar.specs.Parse.Step.{go}
use Rattle.grammar.proofs.Loads.{lighter}
use Rattle.grammar.proofs.Turns.{turn, end, went, ended}
use Rattle.grammar.proofs.parser.Parser.read_all.Goals as goal

pub loop-placed-preserved : goal.loop-placed-preserved
loop-placed-preserved c =
    let i = c.loop-placed.invariant in
    let xs = c.args.items.now in
    let s = state_of c.loop-placed.self in
    let t = state_of c.read.new.self in
    let m : step s (get_or xs c.loop-placed.placed-index (at Item.Atom 0)).item ≡ go t = c.read.ensures.meaning ∙ went c.read.result t c.in_ok-map_err.ensures.variant in
    record {
      codes = record {
        same_size = c.read.ensures.codes.same_size ∙ i.codes.same_size;
        lender = c.read.ensures.codes.lender ∙ i.codes.lender;
        holder = c.read.ensures.codes.holder ∙ i.codes.holder;
      };
      light = omega (arith, lighter s t (get_or xs c.loop-placed.placed-index (at Item.Atom 0)).item m, i.light);
      so_far = i.so_far ∙ turn xs c.args.text_length c.loop-placed.placed-index s (go t) c.loop-placed-test.true m;
    }

pub returns-clause-told : goal.returns-clause-told
returns-clause-told c =
    c.loop-placed.invariant.so_far
    ∙ end c.args.items.now c.args.text_length c.loop-placed.placed-index (state_of c.loop-placed.self) _ c.loop-placed-test.false c.finish.ensures.meaning
    ∙ ended _ c.finish.result c.map_err-2.result c.args.text_length (state_of c.finish.new.self) (λ k y p. search rules) c.map_err-2.ensures.cases
