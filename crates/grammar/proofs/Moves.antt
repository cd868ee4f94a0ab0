-- The steps over the parser's memory.
use Rattle.std.proofs.Common.{◌≡◌, suc, ◌-◌, ◌≤◌, List, [], ◌∷◌, ◌++◌, Ok, length, reverse, refl, ap, ◌∙◌, arith, length-append}
use Rattle.std.proofs.lemmas.List.{reverse-append}
use Rattle.pattern.specs.declared.Code.{Code}
use Rattle.grammar.specs.declared.frame.Repeats.{Repeats}
use Rattle.grammar.specs.declared.frame.Repeats.TheVariants.{Empty, One, Many}
use Rattle.grammar.specs.declared.frame.Frame.{Frame}
use Rattle.grammar.specs.Parse.{Step, state, operand, operand_in, closed}
use Rattle.grammar.specs.Parse.Step.{go}

-- a repeat is there
pub wanted : (k : Repeats) (d : Step) → operand_in k ≡ Ok tt → operand k d ≡ d
wanted Empty d e = cc
wanted One d e = refl
wanted Many d e = refl

pub closed_is : (fs gs : List Frame) (f : Frame) (cs : List Code) → fs ≡ gs ++ f ∷ [] → length fs ≤ 32
    → closed (32 - length fs) cs (reverse fs) ≡ go (state (32 - length gs) cs f (reverse gs))
closed_is fs gs f cs e h =
    let n : suc (32 - length fs) ≡ 32 - length gs = omega (arith, ap length e, length-append gs (f ∷ [])) in
    ap (closed (32 - length fs) cs) (ap reverse e ∙ reverse-append gs (f ∷ [])) ∙ ap (λ z. go (state z cs f (reverse gs))) n
