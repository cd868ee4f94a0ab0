-- Where a text ends but for blanks.
use Rattle.std.proofs.Common.{◌≡◌, ◌-◌, ℕ, ◌+◌, ◌<◌, true, false, List, [], length, get_or, take, arith}
use Rattle.std.specs.List.{suffix_len}
use Rattle.std.proofs.lemmas.List.Sums.{suffix_len_is}
use Rattle.script.specs.Words.{blank, trimmed}

module _ (xs : List ℕ) where
  pub cut : (i : ℕ) → i < length xs → blank (get_or xs i 0) ≡ false → ((k : ℕ) → i < k → k < length xs → blank (get_or xs k 0) ≡ true) → take (i + 1) xs ≡ trimmed xs
  cut i h here behind =
      let at : suffix_len blank xs ≡ length xs - (i + 1) = suffix_len_is blank xs (i + 1) 0 (omega arith) (λ k l m. behind k (omega arith) m) (λ l. let e : i + 1 - 1 ≡ i = omega arith in rw e here) in
      let e : length xs - suffix_len blank xs ≡ i + 1 = omega arith in
      rw e

  pub cut_all : ((k : ℕ) → k < length xs → blank (get_or xs k 0) ≡ true) → [] ≡ trimmed xs
  cut_all behind =
      let at : suffix_len blank xs ≡ length xs - 0 = suffix_len_is blank xs 0 0 (omega arith) (λ k l m. behind k m) (λ l. absurd (omega arith)) in
      let e : length xs - suffix_len blank xs ≡ 0 = omega arith in
      rw e
