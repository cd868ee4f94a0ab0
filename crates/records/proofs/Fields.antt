-- What a field reads, where it has a number.
use Rattle.std.proofs.Common.{◌≡◌, ℕ, List, [], ◌∷◌, length, Some, Result, sym, refl, subst}
use Rattle.script.specs.Numbers.{number_of}
use Rattle.records.specs.Blanks.{stripped}
use Rattle.records.specs.Rows.{converted, Converts, ReadsBy, Reads}
use Rattle.records.specs.declared.csv.Field.{Field}
use Rattle.records.specs.declared.csv.Fault.{Fault}

module _ {A E : Type 0} (gives : ℕ → Result A E → Type 0) (f : Field) where
  read_by : (text : List ℕ) (n : ℕ) (q : Result A E) → (length text ≡ 0 → ⊥) → Some n ≡ number_of text → gives n q → ReadsBy gives f text (converted f q)
  read_by [] n q some is given = absurd (some refl)
  read_by (x ∷ xs) n q some is given = subst (λ o. Converts gives f o (converted f q)) is (q, given, refl)

  pub read : (raw text : List ℕ) (n : ℕ) (q : Result A E) (r : Result A Fault) → text ≡ stripped raw → (length text ≡ 0 → ⊥) → Some n ≡ number_of text → gives n q → r ≡ converted f q → Reads gives f raw r
  read raw text n q r cut some is given e = rw (sym cut, e) (read_by text n q some is given)
