-- A list filled place by place.
use Rattle.std.proofs.Common.{◌≡◌, ℕ, ◌+◌, ◌<◌, ◌≢◌, List, [], ◌∷◌, ◌++◌, length, get_or, take, set, sym, refl, ap, ◌∙◌, arith, get_or-set_other, get_or-set_same, below_more}
use Rattle.std.proofs.Math.ListN.{get_or-append}
use Rattle.std.proofs.lemmas.List.{take_more, take_more_set, get_or_push}

-- a write at i leaves what stands below, and puts v at i
pub below_kept : {X : Type 0} (P : ℕ → X → Type 0) (xs : List X) (i : ℕ) (v d : X) → i < length xs → ((k : ℕ) → k < i → P k (get_or xs k d)) → P i v → (k : ℕ) → k < i + 1 → P k (get_or (set xs i v) k d)
below_kept P xs i v d l h e =
    below_more (λ k. P k (get_or (set xs i v) k d)) i (λ k u. let ne : k ≢ i = omega arith in rw get_or-set_other (h k u)) (rw get_or-set_same e)

pub below_set : (f : ℕ → ℕ) (xs : List ℕ) (i v : ℕ) → i < length xs → ((k : ℕ) → k < i → get_or xs k 0 ≡ f k) → v ≡ f i → (k : ℕ) → k < i + 1 → get_or (set xs i v) k 0 ≡ f k
below_set f xs i v l h e = below_kept (λ k x. x ≡ f k) xs i v 0 l h e

-- one more at the end
pub below_pushed : {X : Type 0} (P : ℕ → X → Type 0) (xs : List X) (v d : X) → ((k : ℕ) → k < length xs → P k (get_or xs k d)) → P (length xs) v → (k : ℕ) → k < length xs + 1 → P k (get_or (xs ++ v ∷ []) k d)
below_pushed P xs v d h e = below_more (λ k. P k (get_or (xs ++ v ∷ []) k d)) (length xs) (λ k l. rw get_or-append (h k l)) (rw (get_or_push xs v d (length xs) refl) e)

-- one more element copied
pub copied_more : {X : Type 0} (xs ys : List X) (i : ℕ) (v d : X) → i < length xs → i < length ys → v ≡ get_or ys i d → take i xs ≡ take i ys → take (i + 1) (set xs i v) ≡ take (i + 1) ys
copied_more xs ys i v d l m e h = take_more_set xs i v l ∙ ap (λ zs. zs ++ v ∷ []) h ∙ ap (λ y. take i ys ++ y ∷ []) e ∙ sym (take_more ys i d m)
