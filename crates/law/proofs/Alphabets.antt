-- The alphabet's law makes symbols of one class lead alike.
use Rattle.std.proofs.Common.{ℕ, sym, ap, ◌∙◌}
use Rattle.std.proofs.lemmas.Bool.{eqb-true, eq-eqb}
use Rattle.theory.specs.Positions.{positions}
use Rattle.theory.proofs.Bit.{same_members}
use Rattle.theory.proofs.Masks.{masks_lawful, within}
use Rattle.theory.proofs.Widths.{alike}
use Rattle.law.specs.Alphabets.{FromAlphabet, FromMasks, masked}

pub from_alphabet : (Sym States : Type 0) → FromAlphabet Sym States
from_alphabet Sym States M accepts classes numbered lawful extensional one =
    record {
      numbered = numbered;
      lawful = lawful;
      one = one;
      small = classes.below;
      alike = λ d S a b fa fb e.
          alike M.passes (positions M.tree) M.machine lawful extensional a b
          (λ p. sym (classes.agree p a fa) ∙ ap (λ c. accepts c p) e ∙ classes.agree p b fb) d S;
    }

pub from_masks : (Sym : Type 0) → FromMasks Sym
from_masks Sym n passes tree fit class_of accepts classes numbered wide =
    from_alphabet Sym ℕ (masked n passes tree fit class_of) accepts classes numbered
    (masks_lawful n passes (positions tree) (within tree n numbered wide))
    same_members
    (λ S R. (λ h. eqb-true S R h, λ h. eq-eqb S R h))
