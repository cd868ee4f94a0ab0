-- The front of a table: one entry more, and an entry by its number.
use Rattle.std.proofs.Common.{◌≡◌, ℕ, zero, suc, ◌+◌, ◌-◌, ◌<◌, ◌≤◌, List, [], ◌∷◌, ◌++◌, length, get_or, take, set, Some, None, sym, refl, ap, ◌∙◌, arith}
use Rattle.std.proofs.lemmas.List.{take_more_set, take_all, take-append-le, length-take-le, get_or-take, length_push}
use Rattle.std.proofs.lemmas.Option.{slice_get-get_or, slice_get_past}
use Rattle.reader.specs.Drafts.{numbered}

pub one_more : {T : Type 0} (m n : ℕ) (xs : List T) (t : T) → n < m → m ≤ length xs → take (n + 1) (set xs n t) ≡ take m (take n xs ++ t ∷ [])
one_more m n xs t h e =
    let room : n < length xs = omega arith in
    let short : length (take n xs ++ t ∷ []) ≤ m = omega (arith, length_push (take n xs) t, length-take-le n xs (omega arith)) in
    take_more_set xs n t room ∙ sym (take_all m (take n xs ++ t ∷ []) short)

pub none_more : {T : Type 0} (m n : ℕ) (xs : List T) (t : T) → m ≤ n → n ≤ m → m ≤ length xs → take n xs ≡ take m (take n xs ++ t ∷ [])
none_more m n xs t h k e =
    let long : m ≤ length (take n xs) = omega (arith, length-take-le n xs (omega arith)) in
    let short : length (take n xs) ≤ m = omega (arith, length-take-le n xs (omega arith)) in
    sym (take-append-le m (take n xs) (t ∷ []) long ∙ take_all m (take n xs) short)

pub number_zero : {T : Type 0} (k : ℕ) (xs : List T) → k ≡ 0 → None ≡ numbered xs k
number_zero zero xs h = refl
number_zero (suc k) xs h = let no : ⊥ = omega arith in absurd no

pub number_none : {T : Type 0} (k n : ℕ) (xs : List T) → n < k → n ≤ length xs → None ≡ numbered (take n xs) k
number_none zero n xs h e = refl
number_none (suc k) n xs h e = sym (slice_get_past (take n xs) k (omega (arith, length-take-le n xs e)))

pub number_some : {T : Type 0} (k n : ℕ) (xs : List T) (d : T) → 0 < k → k ≤ n → n ≤ length xs → Some (get_or xs (k - 1) d) ≡ numbered (take n xs) k
number_some zero n xs d h l e = let no : ⊥ = omega arith in absurd no
number_some (suc k) n xs d h l e =
    let i : suc k - 1 ≡ k = omega arith in
    let long : k < length (take n xs) = omega (arith, length-take-le n xs e) in
    ap Some (ap (λ j. get_or xs j d) i ∙ sym (get_or-take n xs k d (omega arith))) ∙ sym (slice_get-get_or (take n xs) k d long)
