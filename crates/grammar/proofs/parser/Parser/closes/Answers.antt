use Rattle.std.proofs.Common.{◌≡◌, ◌-◌, ◌∷◌, [], ◌++◌, length, reverse, sym, ap, ◌∙◌, arith}
use Rattle.std.specs.Option.{option_to_list}
use Rattle.collector.specs.Pushing.{held}
use Rattle.grammar.specs.Parse.{ends, closed, state}
use Rattle.grammar.specs.Parse.Step.{go}
use Rattle.grammar.proofs.Moves.{wanted, closed_is}
use Rattle.grammar.proofs.parser.Parser.closes.Goals as goal

pub returns : goal.returns
returns c =
    let p = c.args.self.now in
    let w = c.end.ensures in
    let fs = p.around.items in
    let gs = c.pop.new.self.items in
    let x = c.in_ok-outer.outer in
    let popped : fs ≡ gs ++ x ∷ [] = c.pop.ensures.items ∙ ap (λ o. gs ++ option_to_list o) c.in_ok-outer.ensures.ok_part in
    record {
      meaning = wanted p.frame.repeats (closed (32 - length fs) (held p.codes.now ++ ends p.frame) (reverse fs)) (sym c.in_ok-operand.ensures)
          ∙ closed_is fs gs x (held p.codes.now ++ ends p.frame) popped (omega arith)
          ∙ ap (λ z. go (state (32 - length gs) z x (reverse gs))) (sym w.wrote.entries)
          ∙ ap (λ z. go (state (32 - length z.items) (held c.end.new.self.codes.now) x (reverse z.items))) (sym w.around);
      codes = record { same_size = w.wrote.same_size; lender = w.wrote.lender; holder = w.holder };
    }
