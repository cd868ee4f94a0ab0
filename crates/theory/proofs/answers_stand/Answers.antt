use Rattle.theory.specs.Words.{Words}
use Rattle.theory.proofs.Answers.{one_find, one_list}
use Rattle.theory.proofs.Lists.{lists_rest}
use Rattle.theory.proofs.answers_stand.Goals as goal

pub returns : goal.returns
returns g c =
    record {
      find_one = one_find;
      list_one = one_list;
      list_rest = λ passes o r from entries xs rest. lists_rest (Words passes o) r;
    }
