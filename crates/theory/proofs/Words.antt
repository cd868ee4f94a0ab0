-- Lists cut in two, and words in a row.
use Rattle.std.proofs.Common.{◌≡◌, ℕ, Bool, T, ◌⊎◌, List, [], ◌∷◌, ◌++◌, sym, refl, ap, subst, inl, inr, arith}
use Rattle.pattern.specs.Tree.{Tree}
use Rattle.pattern.specs.Tree.Tree.{atom, join, choice, star, plus, maybe}
use Rattle.theory.specs.Words.{Many, Then, Word}
use Rattle.theory.specs.Words.Many.{none, more}
use Rattle.theory.specs.Positions.{nullable}
use Rattle.theory.proofs.Tests.{and_both, and_left, and_right, or_left, or_right, or_cases}

module _ {A : Type 0} where
  pub cons≢nil : {a : A} {w : List A} → a ∷ w ≡ [] → ⊥
  cons≢nil e = let z : ◌≡◌ {A = ℕ} 0 1 = cc in omega arith

  -- two words in a row, and many: empty, or beginning with a
  pub then_nil : (L M : List A → Type 0) → Then L M [] → L [] × M []
  then_nil L M h = go h.0 h.1 h.4 h.2 h.3
    where
      go : (u v : List A) → [] ≡ u ++ v → L u → M v → L [] × M []
      go [] v e l m = (l, subst M (sym e) m)
      go (b ∷ u) v e l m = absurd (cons≢nil (sym e))

  pub then_cons : (L M : List A → Type 0) (a : A) (w : List A) → Then L M (a ∷ w) → (L [] × M (a ∷ w)) ⊎ Then (λ u. L (a ∷ u)) M w
  then_cons L M a w h = go h.0 h.1 h.4 h.2 h.3
    where
      go : (u v : List A) → a ∷ w ≡ u ++ v → L u → M v → (L [] × M (a ∷ w)) ⊎ Then (λ u. L (a ∷ u)) M w
      go [] v e l m = inl (l, subst M (sym e) m)
      go (b ∷ u) v e l m = let p : b ≡ a = cc in inr (u, v, subst (λ c. L (c ∷ u)) p l, m, cc)

  pub cons_then : (L M : List A → Type 0) (a : A) (w : List A) → Then (λ u. L (a ∷ u)) M w → Then L M (a ∷ w)
  cons_then L M a w h = (a ∷ h.0, h.1, h.2, h.3, ap (λ x. a ∷ x) h.4)

  pub then_map : {L K : List A → Type 0} (M : List A → Type 0) (w : List A) → ((u : List A) → L u → K u) → Then L M w → Then K M w
  then_map M w f h = (h.0, h.1, f h.0 h.2, h.3, h.4)

  pub many_cons : (L : List A → Type 0) (a : A) (w : List A) → Many L (a ∷ w) → Then (λ u. L (a ∷ u)) (Many L) w
  many_cons L a w h = go h refl
    where
      go : {x : List A} → Many L x → a ∷ w ≡ x → Then (λ u. L (a ∷ u)) (Many L) w
      go none e = absurd (cons≢nil e)
      go (more {u = []} l m) e = go m e
      go (more {u = b ∷ u} {v} l m) e = let p : b ≡ a = cc in (u, v, subst (λ c. L (c ∷ u)) p l, m, cc)

  pub cons_many : (L : List A → Type 0) (a : A) (w : List A) → Then (λ u. L (a ∷ u)) (Many L) w → Many L (a ∷ w)
  cons_many L a w h = subst (Many L) (ap (λ x. a ∷ x) (sym h.4)) (more h.2 h.3)

module _ {Sym : Type 0} (passes : ℕ → Sym → Bool) where
  pub null_word : (t : Tree) → T (nullable t) → Word passes t []
  null_word (atom n) h = absurd h
  null_word (join l r) h = ([], [], null_word l (and_left (nullable l) (nullable r) h), null_word r (and_right (nullable l) (nullable r) h), refl)
  null_word (choice l r) h = elim (or_cases (nullable l) (nullable r) h) [ inl x ↦ inl (null_word l x) | inr y ↦ inr (null_word r y) ]
  null_word (star t) h = none
  null_word (plus t) h = ([], [], null_word t h, none, refl)
  null_word (maybe t) h = inl refl

  pub word_null : (t : Tree) → Word passes t [] → T (nullable t)
  word_null (atom n) h = absurd (cons≢nil (sym h.2))
  word_null (join l r) h =
      let c = then_nil (Word passes l) (Word passes r) h in and_both (nullable l) (nullable r) (word_null l c.0) (word_null r c.1)
  word_null (choice l r) (inl x) = or_left (nullable l) (nullable r) (word_null l x)
  word_null (choice l r) (inr y) = or_right (nullable l) (nullable r) (word_null r y)
  word_null (star t) h = tt
  word_null (plus t) h = word_null t (then_nil (Word passes t) (Many (Word passes t)) h).0
  word_null (maybe t) h = tt
