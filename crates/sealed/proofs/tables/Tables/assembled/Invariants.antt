use Rattle.std.proofs.Common.{◌≡◌, ◌+◌, drop}
use Rattle.theory.specs.Seal.{sealed, or_none}
use Rattle.sealed.specs.Assembling.{rest, atom_codes}
use Rattle.sealed.proofs.tables.Tables.assembled.Given as goal

abbrev pub invariant-loop-code : goal.invariant-loop-code
invariant-loop-code l =
    (l.assembly.atoms + atom_codes (drop l.code-index l.codes) ≡ atom_codes l.codes)
    × (or_none (rest l.assembly (drop l.code-index l.codes)) ≡ sealed l.codes)
