-- A text cut at its first b.
use Rattle.std.proofs.Common.{◌≡◌, ◌≢◌, ℕ, ◌<◌, List, length, get_or, Option, arith}
use Rattle.std.specs.Prelude.{◌==◌, not, position, unwrap_or}
use Rattle.std.specs.List.{position_or_len}
use Rattle.std.proofs.lemmas.Bool.{eq-eqb, ne_eqb}
use Rattle.std.proofs.lemmas.Grind.{common_steps}
use Rattle.std.proofs.lemmas.List.Folds.{length-prefix_len}
use Rattle.std.proofs.lemmas.List.Sums.{position_or_len_is, prefix_len-le-length}
use Rattle.script.specs.Words.{up_to}

module _ (b : ℕ) (xs : List ℕ) where
  pub first_at : (i : ℕ) → i < length xs → get_or xs i 0 ≡ b → ((k : ℕ) → k < i → get_or xs k 0 ≢ b) → position_or_len (λ x. x == b) xs ≡ i
  first_at i h here before =
      position_or_len_is (λ x. x == b) xs i 0 (omega arith) (λ k l. ne_eqb (get_or xs k 0) b (before k l)) (λ l. eq-eqb (get_or xs i 0) b here)

  pub first_nowhere : ((k : ℕ) → k < length xs → get_or xs k 0 ≢ b) → position_or_len (λ x. x == b) xs ≡ length xs
  first_nowhere before =
      position_or_len_is (λ x. x == b) xs (length xs) 0 (omega arith) (λ k l. ne_eqb (get_or xs k 0) b (before k l)) (λ l. absurd (omega arith))

  pub first_or_all : (o : Option ℕ) → o ≡ position (λ x. x == b) xs → unwrap_or o (length xs) ≡ length (up_to b xs)
  first_or_all o e =
      let within = prefix_len-le-length (λ x. not (x == b)) xs in
      rw (e, length-prefix_len) (grind (arith, common_steps))
