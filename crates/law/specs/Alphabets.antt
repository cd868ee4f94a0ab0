-- An alphabet's law makes a proper subject.
use Rattle.std.specs.Prelude.{◌≡◌, ℕ, ◌<◌, Bool, true, eqb, ◌↔◌, Option}
use Rattle.pattern.specs.Tree.{Tree}
use Rattle.theory.specs.Positions.{positions, FromOne, atoms}
use Rattle.theory.specs.Machine.{Lawful, Extensional}
use Rattle.theory.specs.Masks.{masks}
use Rattle.law.specs.Subject.{Subject, Proper}

-- what an alphabet promises: its classes are below 256, and a symbol's class passes a test exactly when the symbol does
pub record Classes {Sym States : Type 0} (M : Subject Sym States) (accepts : ℕ → ℕ → Bool) : Type 0 where
  pub below : (a : Sym) → M.fit a ≡ true → M.class_of a < 256
  pub agree : (test : ℕ) (a : Sym) → M.fit a ≡ true → accepts (M.class_of a) test ≡ M.passes test a

-- over any sets of positions of which those with the same members are one
abbrev pub FromAlphabet : Type 0 → Type 0 → Type 0
FromAlphabet Sym States =
    (M : Subject Sym States) (accepts : ℕ → ℕ → Bool) →
    Classes M accepts → FromOne M.tree → Lawful M.passes (positions M.tree) M.machine → Extensional M.machine →
    ((S R : States) → (M.same S R ≡ true) ↔ (S ≡ R)) →
    Proper M

-- sets of positions as masks of n bits
abbrev pub masked : {Sym : Type 0} → ℕ → (ℕ → Sym → Bool) → Option Tree → (Sym → Bool) → (Sym → ℕ) → Subject Sym ℕ
masked n passes tree fit class_of = record { tree = tree; passes = passes; machine = masks n passes (positions tree); same = eqb; fit = fit; class_of = class_of }

-- in particular over masks that are wide enough: bit 0 and one for each atom
abbrev pub FromMasks : Type 0 → Type 0
FromMasks Sym =
    (n : ℕ) (passes : ℕ → Sym → Bool) (tree : Option Tree) (fit : Sym → Bool) (class_of : Sym → ℕ) (accepts : ℕ → ℕ → Bool) →
    Classes (masked n passes tree fit class_of) accepts → FromOne tree → atoms tree < n →
    Proper (masked n passes tree fit class_of)
