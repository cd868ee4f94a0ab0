use Rattle.theory.specs.Positions.{positions}
use Rattle.theory.proofs.Bit.{same_members}
use Rattle.theory.proofs.Masks.{masks_lawful, within, those_holds, number_those}
use Rattle.theory.proofs.Members.{common_members, empty_members, ahead_members, back_members}
use Rattle.theory.proofs.Widths.{any_width}
use Rattle.theory.proofs.masks_stand.Goals as goal

pub returns : goal.returns
returns g c = λ passes.
    record {
      lawful = λ o n h few. masks_lawful n passes (positions o) (within o n h few);
      extensional = λ P n. same_members;
      any_width = any_width passes;
      ahead = λ P n h f a. ahead_members passes P n h f a;
      back = λ P n h f a. back_members passes P n h f a;
      first = λ P n f. common_members n f P.first;
      last = λ P n f. common_members n f P.last;
      empty = λ P n f. empty_members n f;
      members = those_holds;
      number = number_those;
    }
