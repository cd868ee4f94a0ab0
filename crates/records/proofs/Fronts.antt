-- Where a text begins but for blanks.
use Rattle.std.proofs.Common.{◌≡◌, ◌-◌, ℕ, ◌<◌, true, false, List, [], length, get_or, take, drop, sym, ◌∙◌, arith}
use Rattle.std.proofs.lemmas.List.{take_rest, drop_all}
use Rattle.std.proofs.lemmas.List.Sums.{prefix_len_is}
use Rattle.script.specs.Words.{blank}
use Rattle.records.specs.Blanks.{fronted}

module _ (xs : List ℕ) where
  pub cut : (i : ℕ) → i < length xs → blank (get_or xs i 0) ≡ false → ((k : ℕ) → k < i → blank (get_or xs k 0) ≡ true) → take (length xs - i) (drop i xs) ≡ fronted xs
  cut i h here before =
      let at = prefix_len_is blank xs i 0 (omega arith) before (λ _. here) in
      take_rest xs i ∙ sym (rw at)

  pub cut_all : ((k : ℕ) → k < length xs → blank (get_or xs k 0) ≡ true) → [] ≡ fronted xs
  cut_all before =
      let at = prefix_len_is blank xs (length xs) 0 (omega arith) before (λ l. absurd (omega arith)) in
      sym (rw at (drop_all (length xs) xs (omega arith)))
