-- The bytes of hexadecimal digits, pair by pair.
use Rattle.std.proofs.Common.{◌≡◌, ℕ, ◌<◌, List, [], ◌∷◌, ◌++◌, length, get_or, drop, Some, None, Option, sym, refl, ap, ◌∙◌, append_assoc, arith}
use Rattle.script.specs.Hex.{hex_of, pair_of, in_front, bytes_of}

-- the bytes so far, and those that are still to come
abbrev pub joined : List ℕ → Option (List ℕ) → Option (List ℕ)
joined xs (Some ys) = Some (xs ++ ys)
joined xs None = None

moved : (xs : List ℕ) (b : ℕ) (rest : Option (List ℕ)) → joined xs (in_front (Some b) rest) ≡ joined (xs ++ b ∷ []) rest
moved xs b (Some ys) = ap Some (sym (append_assoc xs (b ∷ []) ys))
moved xs b None = refl

pub nothing_yet : (o : Option (List ℕ)) → joined [] o ≡ o
nothing_yet (Some ys) = refl
nothing_yet None = refl

pub pair : (xs ts : List ℕ) (b : ℕ) (ys : List ℕ) → 1 < length ts → pair_of (hex_of (get_or ts 0 0)) (hex_of (get_or ts 1 0)) ≡ Some b → ys ≡ xs ++ b ∷ []
    → joined ys (bytes_of (drop 2 ts)) ≡ joined xs (bytes_of ts)
pair xs [] b ys h is more = absurd (omega arith)
pair xs (x ∷ []) b ys h is more = absurd (omega arith)
pair xs (x ∷ y ∷ ts) b ys h is more =
    ap (λ l. joined l (bytes_of ts)) more ∙ sym (ap (λ o. joined xs (in_front o (bytes_of ts))) is ∙ moved xs b (bytes_of ts))
