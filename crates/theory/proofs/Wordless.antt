-- Without words nothing is found, and only the back scan reads.
use Rattle.std.proofs.Common.{◌≡◌, ℕ, Bool, false, List, None}
use Rattle.theory.specs.Words.{Words}
use Rattle.theory.specs.Positions.{positions}
use Rattle.theory.specs.Machine.{Machine, Lawful}
use Rattle.theory.specs.Scans.{find, whole}
use Rattle.theory.specs.Theorems.{Wordless}
use Rattle.theory.proofs.Tests.{same_test}
use Rattle.theory.proofs.Tells.{tells}
use Rattle.theory.proofs.Find.{finds_one, find_finds}
use Rattle.theory.proofs.Whole.{whole_word}
use Rattle.theory.proofs.Reading.{reading}

pub wordless : {Sym Set : Type 0} (passes : ℕ → Sym → Bool) (m : Machine Sym Set) → Lawful passes (positions None) m → Wordless m
wordless {Sym} passes m lawful =
    record { nothing = nothing; never = λ r. same_test (whole m r) false (whole_word passes (positions None) m lawful (Words passes None) (tells passes None tt) r); reads = λ r from. (reading m).none r from (nothing r from) }
  where
    nothing : (r : List Sym) (from : ℕ) → find m r from ≡ None
    nothing r from =
        finds_one (Words passes None) r from (find m r from) None (find_finds passes (positions None) m lawful (Words passes None) (tells passes None tt) r from)
        (λ y b x. x.word)
