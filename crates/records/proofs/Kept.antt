-- The rows of a text, line by line.
use Rattle.std.proofs.Common.{◌≡◌, ℕ, ◌+◌, Bool, List, [], ◌∷◌, ◌++◌, Result, sym, ap, ◌∙◌, append_assoc, append-nil}
use Rattle.symbols.specs.declared.Event.{Event}
use Rattle.records.specs.Rows.{row_of, still_first, rows_of, good_in, bad_in, good_rows, bad_rows}
use Rattle.records.specs.declared.csv.Fault.{Fault}
use Rattle.records.specs.declared.csv.Row.{Row}
use Rattle.records.specs.declared.csv.BadLine.{BadLine}

-- what was kept, and what the lines still have
abbrev pub goods : List Event → Bool → List (List ℕ) → List Event
goods es f ls = es ++ good_rows (rows_of f ls)

abbrev pub bads : List BadLine → ℕ → Bool → List (List ℕ) → List BadLine
bads bs n f ls = bs ++ bad_rows n (rows_of f ls)

module _ (f g : Bool) (line : List ℕ) (ls ms : List (List ℕ)) (r : Result Row Fault) (is_row : r ≡ row_of f line) (is_next : g ≡ still_first f r) (is_rest : ls ≡ line ∷ ms) where
  rows : rows_of f ls ≡ r ∷ rows_of g ms
  rows = ap (rows_of f) is_rest ∙ sym (ap (λ v. r ∷ rows_of v ms) is_next ∙ ap (λ q. q ∷ rows_of (still_first f q) ms) is_row)

  pub good : (es more : List Event) → more ≡ es ++ good_in r → goods more g ms ≡ goods es f ls
  good es more e =
      ap (λ l. l ++ good_rows (rows_of g ms)) e ∙ append_assoc es (good_in r) (good_rows (rows_of g ms)) ∙ sym (ap (λ l. es ++ good_rows l) rows)

  pub bad : (n : ℕ) (bs more : List BadLine) → more ≡ bs ++ bad_in n r → bads more (n + 1) g ms ≡ bads bs n f ls
  bad n bs more e =
      ap (λ l. l ++ bad_rows (n + 1) (rows_of g ms)) e ∙ append_assoc bs (bad_in n r) (bad_rows (n + 1) (rows_of g ms)) ∙ sym (ap (λ l. bs ++ bad_rows n l) rows)

pub good_end : (es : List Event) (f : Bool) (ls : List (List ℕ)) → ls ≡ [] → goods es f ls ≡ es
good_end es f ls e = ap (goods es f) e ∙ append-nil es

pub bad_end : (bs : List BadLine) (n : ℕ) (f : Bool) (ls : List (List ℕ)) → ls ≡ [] → bads bs n f ls ≡ bs
bad_end bs n f ls e = ap (bads bs n f) e ∙ append-nil bs
