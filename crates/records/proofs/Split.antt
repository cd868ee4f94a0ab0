-- The pieces of a text, one turn of a split after the other.
use Rattle.std.proofs.Common.{◌≡◌, ℕ, suc, ◌+◌, ◌≤◌, Bool, true, false, cond, List, [], ◌∷◌, ◌++◌, length, get_or, Some, Bor, refl, sym, ap, ◌∙◌, subst, arith, length-append}
use denote.Param.Members.{Mut}
use Rattle.std.specs.Bool.{MatchBool}
use Rattle.std.specs.Fn.{CalledAt, ComputesKey}
use Rattle.std.specs.List.{All, IsFirstMatchOrLen}
use Rattle.std.specs.Slice.Iter.{split_rest, split_done, split_callee, split_steps}
use Rattle.std.specs.declared.slice.Split.{Split}
use Rattle.std.specs.Prelude.{◌==◌, if◌then◌else◌}
use Rattle.std.proofs.lemmas.Fn.{always_returns_same}
use Rattle.std.proofs.lemmas.Grind.{common_steps}
use Rattle.std.proofs.lemmas.List.Splits.{slice_split_none, slice_split_at}
use Rattle.records.specs.Pieces.{pieces}

-- the pieces still to come
abbrev pub left : {F : Type 0} → ℕ → Split ℕ F → List (List ℕ)
left b s = cond (split_done s) [] (pieces b (split_rest s))

module _ (b : ℕ) (xs x : List ℕ) (h : IsFirstMatchOrLen (λ y. y == b) xs (length x)) where
  piece : (rest : List ℕ) (done : Bool) → MatchBool done (xs ≡ x) ((y : ℕ) × (xs ≡ x ++ (y ∷ rest))) → pieces b xs ≡ x ∷ cond done [] (pieces b rest)
  piece rest true e = ap (pieces b) e ∙ slice_split_none (λ y. y == b) x (λ k d l. subst (λ ys. (get_or ys k d == b) ≡ false) e (h.0 k d (omega arith) l))
  piece rest false e =
      let front : All (λ z. (z == b) ≡ false) x = λ k d l. let a = h.0 k d (omega arith) l in let q = e.1 in grind (arith, common_steps) in
      let hit : (e.0 == b) ≡ true = let q = e.1 in let a = h.1 (grind (arith, common_steps)) e.0 in grind (arith, common_steps) in
      ap (pieces b) e.1 ∙ slice_split_at (λ y. y == b) x e.0 rest front hit

module _ {F : Type 0} (g : Mut F (Bor ℕ × Unit {0}) Bool) (b : ℕ) (s t : Split ℕ F) where
  pub turn : (x : Bor (List ℕ)) → ((y : ℕ) (r : Bool) (q : F) → CalledAt g (split_callee s) y r q → (q ≡ split_callee s) × (r ≡ (y == b))) → split_steps g s (Some x) t → left b s ≡ x.now ∷ left b t
  turn x tests k =
      let p = λ (y : ℕ). y == b in
      let key : ComputesKey g p (split_callee s) = always_returns_same g (λ a r. r ≡ p a.0.now) (split_callee s) (λ a r q h. let m = tests a.0.now r q (record { shown = a.0; shows = refl; called = h }) in (m.1, m.0)) in
      ap (λ d. cond d [] (pieces b (split_rest s))) k.0 ∙ piece b (split_rest s) x.now (k.2 p key).1 (split_rest t) (split_done t) k.1

fewer_by : (xs x rest : List ℕ) (done : Bool) → MatchBool done (xs ≡ x) ((y : ℕ) × (xs ≡ x ++ (y ∷ rest))) → (if done then 0 else (length rest + 1)) + 1 ≤ length xs + 1
fewer_by xs x rest true e = omega arith
fewer_by xs x rest false e = let q : length xs ≡ length x + suc (length rest) = ap length e.1 ∙ length-append x (e.0 ∷ rest) in omega (arith, q)

-- a piece less than there could be
pub fewer : {F : Type 0} (g : Mut F (Bor ℕ × Unit {0}) Bool) (s t : Split ℕ F) (x : Bor (List ℕ)) → split_steps g s (Some x) t → (if split_done t then 0 else (length (split_rest t) + 1)) + 1 ≤ (if split_done s then 0 else (length (split_rest s) + 1))
fewer g s t x k =
    subst (λ d. (if split_done t then 0 else (length (split_rest t) + 1)) + 1 ≤ (if d then 0 else (length (split_rest s) + 1))) (sym k.0) (fewer_by (split_rest s) x.now (split_rest t) (split_done t) k.1)

pub ended : {F : Type 0} (b : ℕ) (s : Split ℕ F) → split_done s ≡ true → left b s ≡ []
ended b s e = ap (λ d. cond d [] (pieces b (split_rest s))) e
