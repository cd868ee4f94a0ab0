-- What a search with a sealed pattern looks for: the pattern's tree, its alphabet's tests, and the step rule on sets held as numbers.
use Rattle.alphabet.specs.declared.Alphabet.{Ghosts as AlphabetMeaning}
use Rattle.sealed.specs.declared.sealing.Sealed.{Sealed}
use Rattle.sealed.specs.Plans.{tree_of, positions_of}
use Rattle.sets.specs.BitSets.{set_of_bits}
use Rattle.sets.specs.Positions.{alike, PositionSet}
use Rattle.theory.specs.Machine.{Machine}
use Rattle.theory.specs.Masks.{masks}
use Rattle.law.specs.Subject.{Subject}
use Rattle.std.specs.Prelude.{ℕ}

-- a machine over numbers, on sets of positions
abbrev pub on_sets : {Sym : Type 0} → Machine Sym ℕ → Machine Sym PositionSet
on_sets m =
    record {
      has = λ S. m.has S.bits;
      begin = set_of_bits m.begin;
      ahead = λ S a. set_of_bits (m.ahead S.bits a);
      back = λ S a. set_of_bits (m.back S.bits a);
      first = λ S. m.first S.bits;
      last = λ S. m.last S.bits;
      empty = λ S. m.empty S.bits;
      nullable = m.nullable;
    }

abbrev pub sealed_subject : {A Sym : Type 0} → AlphabetMeaning A Sym → Sealed A → Subject Sym PositionSet
sealed_subject alphabet s =
    record {
      tree = tree_of s.plan;
      passes = alphabet.passes s.alphabet;
      machine = on_sets (masks 64 (alphabet.passes s.alphabet) (positions_of s.plan));
      same = alike;
      fit = alphabet.fit;
      class_of = alphabet.class_of s.alphabet;
    }
