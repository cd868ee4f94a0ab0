-- The searches of the examples, by computation.
use Rattle.std.proofs.Common.{◌≡◌, true, [], ◌∷◌, Some, None, codes, refl}
use Rattle.theory.specs.Masks.{those, some}
use Rattle.law.specs.Calls.{Lists, Whole, Found, Listed, Told}
use Rattle.law.specs.Law.{define, finds}
use Rattle.trials.specs.Texts.{written}
use Rattle.trials.specs.Trials.{span, found_in}

pub longest : found_in "a|ab" "xab" ≡ finds (Found (Some (span 1 3))) 5
unfolding those some
longest = refl

pub leftmost : found_in "abcd|c" "abcd" ≡ finds (Found (Some (span 0 4))) 8
unfolding those some
leftmost = refl

pub never_empty : found_in "a*" "bb" ≡ finds (Found None) 2
unfolding those some
never_empty = refl

pub empty_whole : define (written "a*") (Whole []) ≡ finds (Told true) 0
unfolding those some
empty_whole = refl

pub listed : define (written "a") (Lists (codes "aaa") 0 2) ≡ finds (Listed (span 0 1 ∷ span 1 2 ∷ []) (Some 2)) 11
unfolding those some
listed = refl
