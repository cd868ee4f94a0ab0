-- What is left of a word behind a position. Glushkov's theorem is three laws of it, each by induction on the tree.
use Rattle.std.proofs.Common.{◌≡◌, ℕ, Bool, T, ◌⊎◌, List, [], ◌∷◌, refl, ap, subst, inl, inr}
use Rattle.pattern.specs.Tree.{Tree}
use Rattle.pattern.specs.Tree.Tree.{atom, join, choice, star, plus, maybe}
use Rattle.theory.specs.Words.{Many, Then, Word}
use Rattle.theory.specs.Words.Many.{none}
use Rattle.theory.proofs.Numbers.{In, Distinct, first_in, follow_in}
use Rattle.theory.proofs.Places.{First, Last, Follow}
use Rattle.theory.proofs.Words.{cons≢nil, then_nil, then_cons, cons_then, then_map, many_cons, cons_many, null_word, word_null}

module _ {Sym : Type 0} (passes : ℕ → Sym → Bool) where
  -- w ends a word of t in which the symbol before w stood at p
  abbrev pub Rest : Tree → ℕ → List Sym → Type 0
  Rest (atom n) p w = (p ≡ n) × (w ≡ [])
  Rest (join l r) p w = Then (Rest l p) (Word passes r) w ⊎ Rest r p w
  Rest (choice l r) p w = Rest l p w ⊎ Rest r p w
  Rest (star t) p w = Then (Rest t p) (Many (Word passes t)) w
  Rest (plus t) p w = Then (Rest t p) (Many (Word passes t)) w
  Rest (maybe t) p w = Rest t p w

  pub rest_in : (t : Tree) (p : ℕ) (w : List Sym) → Rest t p w → In t p
  rest_in (atom n) p w h = h.0
  rest_in (join l r) p w (inl h) = inl (rest_in l p h.0 h.2)
  rest_in (join l r) p w (inr h) = inr (rest_in r p w h)
  rest_in (choice l r) p w (inl h) = inl (rest_in l p w h)
  rest_in (choice l r) p w (inr h) = inr (rest_in r p w h)
  rest_in (star t) p w h = rest_in t p h.0 h.2
  rest_in (plus t) p w h = rest_in t p h.0 h.2
  rest_in (maybe t) p w h = rest_in t p w h

  -- nothing is left exactly behind a last position
  pub last_rest : (t : Tree) (p : ℕ) → Last t p → Rest t p []
  last_rest (atom n) p h = (h, refl)
  last_rest (join l r) p (inl h) = inr (last_rest r p h)
  last_rest (join l r) p (inr h) = inl ([], [], last_rest l p h.1, null_word passes r h.0, refl)
  last_rest (choice l r) p (inl h) = inl (last_rest l p h)
  last_rest (choice l r) p (inr h) = inr (last_rest r p h)
  last_rest (star t) p h = ([], [], last_rest t p h, none, refl)
  last_rest (plus t) p h = ([], [], last_rest t p h, none, refl)
  last_rest (maybe t) p h = last_rest t p h

  pub rest_last : (t : Tree) (p : ℕ) → Rest t p [] → Last t p
  rest_last (atom n) p h = h.0
  rest_last (join l r) p (inl h) = let c = then_nil (Rest l p) (Word passes r) h in inr (word_null passes r c.1, rest_last l p c.0)
  rest_last (join l r) p (inr h) = inl (rest_last r p h)
  rest_last (choice l r) p (inl h) = inl (rest_last l p h)
  rest_last (choice l r) p (inr h) = inr (rest_last r p h)
  rest_last (star t) p h = rest_last t p (then_nil (Rest t p) (Many (Word passes t)) h).0
  rest_last (plus t) p h = rest_last t p (then_nil (Rest t p) (Many (Word passes t)) h).0
  rest_last (maybe t) p h = rest_last t p h

  -- a ∷ w is a word whose first symbol stands at a first position
  abbrev pub Starts : Tree → Sym → List Sym → Type 0
  Starts t a w = (p : ℕ) × First t p × T (passes p a) × Rest t p w

  many_starts : (t : Tree) (a : Sym) (w : List Sym) → ((u : List Sym) → Word passes t (a ∷ u) → Starts t a u) → Then (λ u. Word passes t (a ∷ u)) (Many (Word passes t)) w → Starts (star t) a w
  many_starts t a w ih h = let s = ih h.0 h.2 in (s.0, s.1, s.2, (h.0, h.1, s.3, h.3, h.4))

  pub word_starts : (t : Tree) (a : Sym) (w : List Sym) → Word passes t (a ∷ w) → Starts t a w
  word_starts (atom n) a w h = (n, refl, subst (λ b. T (passes n b)) (cc) h.1, (refl, cc))
  word_starts (join l r) a w h =
      elim (then_cons (Word passes l) (Word passes r) a w h) [
        | inl c ↦ let s = word_starts r a w c.1 in (s.0, inr (word_null passes l c.0, s.1), s.2, inr s.3)
        | inr c ↦ let s = word_starts l a c.0 c.2 in (s.0, inl s.1, s.2, inl (c.0, c.1, s.3, c.3, c.4))
      ]
  word_starts (choice l r) a w (inl h) = let s = word_starts l a w h in (s.0, inl s.1, s.2, inl s.3)
  word_starts (choice l r) a w (inr h) = let s = word_starts r a w h in (s.0, inr s.1, s.2, inr s.3)
  word_starts (star t) a w h = many_starts t a w (word_starts t a) (many_cons (Word passes t) a w h)
  word_starts (plus t) a w h =
      many_starts t a w (word_starts t a)
      (elim (then_cons (Word passes t) (Many (Word passes t)) a w h) [
        | inl c ↦ many_cons (Word passes t) a w c.1
        | inr c ↦ c
      ])
  word_starts (maybe t) a w (inl e) = absurd (cons≢nil e)
  word_starts (maybe t) a w (inr h) = word_starts t a w h

  pub starts_word : (t : Tree) → Distinct t → (p : ℕ) (a : Sym) (w : List Sym) → First t p → T (passes p a) → Rest t p w → Word passes t (a ∷ w)
  starts_word (atom n) d p a w f x h = (a, subst (λ k. T (passes k a)) f x, ap (λ v. a ∷ v) h.1)
  starts_word (join l r) d p a w (inl f) x (inl h) =
      cons_then (Word passes l) (Word passes r) a w (then_map (Word passes r) w (λ u. starts_word l d.0 p a u f x) h)
  starts_word (join l r) d p a w (inl f) x (inr h) = absurd (d.2 p (first_in l p f) (rest_in r p w h))
  starts_word (join l r) d p a w (inr f) x (inl h) = absurd (d.2 p (rest_in l p h.0 h.2) (first_in r p f.1))
  starts_word (join l r) d p a w (inr f) x (inr h) = ([], a ∷ w, null_word passes l f.0, starts_word r d.1 p a w f.1 x h, refl)
  starts_word (choice l r) d p a w (inl f) x (inl h) = inl (starts_word l d.0 p a w f x h)
  starts_word (choice l r) d p a w (inl f) x (inr h) = absurd (d.2 p (first_in l p f) (rest_in r p w h))
  starts_word (choice l r) d p a w (inr f) x (inl h) = absurd (d.2 p (rest_in l p w h) (first_in r p f))
  starts_word (choice l r) d p a w (inr f) x (inr h) = inr (starts_word r d.1 p a w f x h)
  starts_word (star t) d p a w f x h =
      cons_many (Word passes t) a w (then_map (Many (Word passes t)) w (λ u. starts_word t d p a u f x) h)
  starts_word (plus t) d p a w f x h =
      cons_then (Word passes t) (Many (Word passes t)) a w (then_map (Many (Word passes t)) w (λ u. starts_word t d p a u f x) h)
  starts_word (maybe t) d p a w f x h = inr (starts_word t d p a w f x h)

  -- one symbol of what is left is a step to a position that follows
  abbrev pub Steps : Tree → ℕ → Sym → List Sym → Type 0
  Steps t p a w = (q : ℕ) × Follow t p q × T (passes q a) × Rest t q w

  -- a loop over t: what is left of this turn, then more turns
  loop_steps : (t : Tree) (p : ℕ) (a : Sym) (w : List Sym) → ((u : List Sym) → Rest t p (a ∷ u) → Steps t p a u) → Rest (star t) p (a ∷ w) → Steps (star t) p a w
  loop_steps t p a w ih h =
      elim (then_cons (Rest t p) (Many (Word passes t)) a w h) [
        | inl c ↦
            let m = many_cons (Word passes t) a w c.1 in
            let s = word_starts t a m.0 m.2 in
            (s.0, inr (rest_last t p c.0, s.1), s.2, (m.0, m.1, s.3, m.3, m.4))
        | inr c ↦ let s = ih c.0 c.2 in (s.0, inl s.1, s.2, (c.0, c.1, s.3, c.3, c.4))
      ]

  pub rest_steps : (t : Tree) (p : ℕ) (a : Sym) (w : List Sym) → Rest t p (a ∷ w) → Steps t p a w
  rest_steps (atom n) p a w h = absurd (cons≢nil h.1)
  rest_steps (join l r) p a w (inl h) =
      elim (then_cons (Rest l p) (Word passes r) a w h) [
        | inl c ↦ let s = word_starts r a w c.1 in (s.0, inr (rest_last l p c.0, s.1), s.2, inr s.3)
        | inr c ↦ let s = rest_steps l p a c.0 c.2 in (s.0, inl (inl s.1), s.2, inl (c.0, c.1, s.3, c.3, c.4))
      ]
  rest_steps (join l r) p a w (inr h) = let s = rest_steps r p a w h in (s.0, inl (inr s.1), s.2, inr s.3)
  rest_steps (choice l r) p a w (inl h) = let s = rest_steps l p a w h in (s.0, inl s.1, s.2, inl s.3)
  rest_steps (choice l r) p a w (inr h) = let s = rest_steps r p a w h in (s.0, inr s.1, s.2, inr s.3)
  rest_steps (star t) p a w h = loop_steps t p a w (rest_steps t p a) h
  rest_steps (plus t) p a w h = loop_steps t p a w (rest_steps t p a) h
  rest_steps (maybe t) p a w h = rest_steps t p a w h

  steps_loop : (t : Tree) → Distinct t → (p q : ℕ) (a : Sym) (w : List Sym) → ((u : List Sym) → Follow t p q → Rest t q u → Rest t p (a ∷ u)) → Follow (star t) p q → T (passes q a) → Rest (star t) q w → Rest (star t) p (a ∷ w)
  steps_loop t d p q a w ih (inl f) x h = cons_then (Rest t p) (Many (Word passes t)) a w (then_map (Many (Word passes t)) w (λ u. ih u f) h)
  steps_loop t d p q a w ih (inr f) x h =
      ([], a ∷ w, last_rest t p f.0, cons_many (Word passes t) a w (then_map (Many (Word passes t)) w (λ u. starts_word t d q a u f.1 x) h), refl)

  pub steps_rest : (t : Tree) → Distinct t → (p q : ℕ) (a : Sym) (w : List Sym) → Follow t p q → T (passes q a) → Rest t q w → Rest t p (a ∷ w)
  steps_rest (atom n) d p q a w f x h = absurd f
  steps_rest (join l r) d p q a w (inl (inl f)) x (inl h) =
      inl (cons_then (Rest l p) (Word passes r) a w (then_map (Word passes r) w (λ u. steps_rest l d.0 p q a u f x) h))
  steps_rest (join l r) d p q a w (inl (inl f)) x (inr h) = absurd (d.2 q (follow_in l p q f).1 (rest_in r q w h))
  steps_rest (join l r) d p q a w (inl (inr f)) x (inl h) = absurd (d.2 q (rest_in l q h.0 h.2) (follow_in r p q f).1)
  steps_rest (join l r) d p q a w (inl (inr f)) x (inr h) = inr (steps_rest r d.1 p q a w f x h)
  steps_rest (join l r) d p q a w (inr f) x (inl h) = absurd (d.2 q (rest_in l q h.0 h.2) (first_in r q f.1))
  steps_rest (join l r) d p q a w (inr f) x (inr h) =
      inl ([], a ∷ w, last_rest l p f.0, starts_word r d.1 q a w f.1 x h, refl)
  steps_rest (choice l r) d p q a w (inl f) x (inl h) = inl (steps_rest l d.0 p q a w f x h)
  steps_rest (choice l r) d p q a w (inl f) x (inr h) = absurd (d.2 q (follow_in l p q f).1 (rest_in r q w h))
  steps_rest (choice l r) d p q a w (inr f) x (inl h) = absurd (d.2 q (rest_in l q w h) (follow_in r p q f).1)
  steps_rest (choice l r) d p q a w (inr f) x (inr h) = inr (steps_rest r d.1 p q a w f x h)
  steps_rest (star t) d p q a w f x h = steps_loop t d p q a w (λ u g. steps_rest t d p q a u g x) f x h
  steps_rest (plus t) d p q a w f x h = steps_loop t d p q a w (λ u g. steps_rest t d p q a u g x) f x h
  steps_rest (maybe t) d p q a w f x h = steps_rest t d p q a w f x h
