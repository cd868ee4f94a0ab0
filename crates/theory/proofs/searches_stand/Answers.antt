use Rattle.theory.specs.Words.{Words}
use Rattle.theory.specs.Positions.{positions}
use Rattle.theory.proofs.Tells.{tells}
use Rattle.theory.proofs.Find.{find_finds}
use Rattle.theory.proofs.Lists.{list_lists}
use Rattle.theory.proofs.Whole.{whole_word}
use Rattle.theory.proofs.searches_stand.Goals as goal

pub returns : goal.returns
returns g c = λ passes o h m lawful.
    record {
      finds = find_finds passes (positions o) m lawful (Words passes o) (tells passes o h);
      lists = λ r from entries. list_lists passes (positions o) m lawful (Words passes o) (tells passes o h) r entries from;
      wholes = whole_word passes (positions o) m lawful (Words passes o) (tells passes o h);
    }
