-- The pattern ab* as it is written, read and classed.
use Rattle.std.proofs.Common.{ℕ, ◌<◌, ltb, List, codes, refl, arith}
use Rattle.std.proofs.lemmas.Bool.{lt-ltb, ltb-true}
use Rattle.pattern.specs.declared.Code.{Code}
use Rattle.symbols.specs.declared.ByteTest.{ByteTest}
use Rattle.theory.specs.Masks.{those, some}
use Rattle.theory.specs.Positions.{FromOne, atoms}
use Rattle.pattern.specs.Codes.{tree}
use Rattle.byte_classes.specs.Classes.{byte_accepts, byte_class, byte_passes}
use Rattle.byte_classes.specs.Numbering.{first, how_many}
use Rattle.byte_classes.specs.Bytewise.{bytes_agree, bytes_few, classified}
use Rattle.byte_notation.specs.Lexing.{lexed}
use Rattle.reader.specs.Reading.{reading, tests_read, codes_read}
use Rattle.law.specs.Subject.{Proper}
use Rattle.law.proofs.Alphabets.{from_masks}
use Rattle.trials.specs.Texts.{drafted, written}
use Rattle.trials.proofs.Counting.{Computed}

-- bytes are classed as the law asks, whatever the tests
drafted_proper : (ts : List ByteTest) (cs : List Code) → FromOne (tree cs) → atoms (tree cs) < 64 → Proper (drafted ts cs)
drafted_proper ts cs numbered few =
    from_masks ℕ 64 (byte_passes ts) (tree cs) (λ b. ltb b 256) (byte_class ts) (byte_accepts ts)
    (record {
      below = λ b fit. omega (arith, (classified ts).within b (ltb-true b 256 fit), (bytes_few ts).1);
      agree = λ k b fit. bytes_agree ts k b (ltb-true b 256 fit);
    })
    numbered few

pub ab_proper : Proper (written "ab*")
ab_proper = drafted_proper (tests_read (reading lexed (codes "ab*"))) (codes_read (reading lexed (codes "ab*"))) (refl, refl) (omega arith)

pub ab_computed : Computed (written "ab*")
unfolding those some first how_many
ab_computed =
    record {
      found = refl;
      findings_are = refl;
      sets_once = refl;
      steps_once = refl;
      sets_twice = refl;
      steps_twice = refl;
      counts_are = λ capacity deep. rw (lt-ltb 0 capacity deep);
    }
