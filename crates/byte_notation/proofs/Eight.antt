-- The cases of a number below eight.
use Rattle.std.proofs.Common.{◌≡◌, ℕ, zero, suc, ◌<◌, refl, arith}

pub eight : {Q : Type 0} (i : ℕ) → i < 8 → (i ≡ 0 → Q) → (i ≡ 1 → Q) → (i ≡ 2 → Q) → (i ≡ 3 → Q) → (i ≡ 4 → Q) → (i ≡ 5 → Q) → (i ≡ 6 → Q) → (i ≡ 7 → Q) → Q
eight zero l a b c d e f g h = a refl
eight (suc zero) l a b c d e f g h = b refl
eight (suc (suc zero)) l a b c d e f g h = c refl
eight (suc (suc (suc zero))) l a b c d e f g h = d refl
eight (suc (suc (suc (suc zero)))) l a b c d e f g h = e refl
eight (suc (suc (suc (suc (suc zero))))) l a b c d e f g h = f refl
eight (suc (suc (suc (suc (suc (suc zero)))))) l a b c d e f g h = g refl
eight (suc (suc (suc (suc (suc (suc (suc zero))))))) l a b c d e f g h = h refl
eight (suc (suc (suc (suc (suc (suc (suc (suc i)))))))) l a b c d e f g h = absurd (omega arith)
