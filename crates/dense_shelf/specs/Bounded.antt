-- The dense rows keep a shelf's bounds. The proof stands here and not among the proofs, because the ghost member `bounds` cites it.
use Rattle.std.specs.Prelude.{◌≡◌, ℕ, ◌+◌, ◌*◌, ◌/◌, ◌<◌, ◌≤◌, cond, List, length, Some, None, slice_index}
use Rattle.std.proofs.Common.{sym, ap, ◌∙◌, ⊎_elim, arith}
use Rattle.std.proofs.lemmas.Bool.{cases_lt, lt-ltb, le-ltb}
use Rattle.std.proofs.lemmas.Option.{none-some}
use Rattle.std.proofs.Math.Nat.{min-le_right}
use Rattle.memory.specs.Steps.{Bounds, Within}
use Rattle.memory.proofs.Sizes.{size_le}
use Rattle.dense_shelf.specs.Rows.{dense, rows, target}

pub rows_few : (n : ℕ) → rows n ≤ 64
rows_few n = min-le_right (n / 256) 64

pub target_low : (n b t : ℕ) → target n b ≡ Some t → (t < n) × (b ≡ t)
target_low n b t e =
    ⊎_elim
    (λ (h : b < n). let s : Some b ≡ Some t = (sym (ap (λ x. cond x (Some b) None) (lt-ltb b n h)) ∙ e) in let q : b ≡ t = cc in (omega arith, q))
    (λ (h : n ≤ b). absurd (none-some t (sym (ap (λ x. cond x (Some b) None) (le-ltb b n h)) ∙ e)))
    (cases_lt b n)

pub dense_within : (bs : List ℕ) (n w : ℕ) → w ≤ 256 → Within n (dense bs n w)
dense_within bs n w hw p c t e =
    ⊎_elim
    (λ (a : p < n).
    ⊎_elim
    (λ (b : c < w).
    (a, omega arith, (target_low n (slice_index bs (c * n + p)) t (rw (lt-ltb p n a, lt-ltb c w b) at e)).0))
    (λ (b : w ≤ c). absurd (none-some t (rw (lt-ltb p n a, le-ltb c w b) at e)))
    (cases_lt c w))
    (λ (a : n ≤ p). absurd (none-some t (rw (le-ltb p n a) at e)))
    (cases_lt p n)

-- of as many places as the rows are said to serve
pub bounds_of_rows : (bs : List ℕ) (n w : ℕ) → n ≤ 64 → w ≤ 256 → Bounds n (256 * n) (dense bs n w)
bounds_of_rows bs n w few low = record {
  few = few;
  some = λ h. omega arith;
  within = dense_within bs n w low;
  fits = size_le n (dense bs n w);
}

-- of as many places as the bytes serve
pub dense_bounds : (bs : List ℕ) (w : ℕ) → w ≤ 256 → Bounds (rows (length bs)) (256 * rows (length bs)) (dense bs (rows (length bs)) w)
dense_bounds bs w h = bounds_of_rows bs (rows (length bs)) w (rows_few (length bs)) h
