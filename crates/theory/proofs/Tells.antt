-- By the step rule the positions of a pattern tell its words, ahead and back.
use Rattle.std.proofs.Common.{◌≡◌, ℕ, Bool, T, List, [], ◌∷◌, ◌++◌, Some, None, Option, refl, ap, subst, inl, inr}
use Rattle.pattern.specs.Tree.{Tree}
use Rattle.theory.specs.Words.{Word, Words, Begins}
use Rattle.theory.specs.Positions.{Positions, positions, FromOne}
use Rattle.theory.specs.Steps.{Begin, Next, Ahead, Reach, Backed, Meets, Tell}
use Rattle.theory.proofs.Numbers.{In, Distinct, first_in, follow_in, no_zero, distinct}
use Rattle.theory.proofs.Places.{First, Follow, first_is, last_is, follow_is}
use Rattle.theory.proofs.Rest.{Rest, last_rest, rest_last, word_starts, starts_word, rest_steps, steps_rest}
use Rattle.theory.proofs.Words.{null_word, word_null}

module _ {Sym : Type 0} (passes : ℕ → Sym → Bool) (t : Tree) where
  abbrev P : Positions
  P = positions (Some t)

  -- from a set S, w leads to a last position where w is left behind some position of S
  rest_reach : (S : ℕ → Type 0) (w : List Sym) (p : ℕ) → S p → Rest passes t p w → Meets (Reach passes P S w) P.last
  rest_reach S [] p s h = (p, s, (last_is t p).1 (rest_last passes t p h))
  rest_reach S (a ∷ w) p s h =
      let n = rest_steps passes t p a w h in rest_reach (Ahead passes P S a) w n.0 (n.2, (p, s, inr ((follow_is t p n.0).1 n.1))) n.3

  word_ahead : (a : Sym) (w : List Sym) → Word passes t (a ∷ w) → Meets (Reach passes P Begin (a ∷ w)) P.last
  word_ahead a w h =
      let s = word_starts passes t a w h in rest_reach (Ahead passes P Begin a) w s.0 (s.2, (0, refl, inl (refl, (first_is t s.0).1 s.1))) s.3

  back_zero : (w : List Sym) → Backed passes P w 0
  back_zero [] = refl
  back_zero (a ∷ w) = inl refl

  rest_back : (u v : List Sym) (p : ℕ) (a : Sym) → T (passes p a) → Rest passes t p u → Backed passes P (a ∷ (u ++ v)) p
  rest_back [] v p a x h = inr (x, inl ((last_is t p).1 (rest_last passes t p h), back_zero v))
  rest_back (b ∷ u) v p a x h =
      let n = rest_steps passes t p b u h in
      inr (x, inr (n.0, rest_back u v n.0 b n.2 n.3, (follow_is t p n.0).1 n.1))

  word_back : (a : Sym) (u v : List Sym) → Word passes t (a ∷ u) → Meets (Backed passes P (a ∷ (u ++ v))) P.first
  word_back a u v h =
      let s = word_starts passes t a u h in (s.0, rest_back u v s.0 a s.2 s.3, (first_is t s.0).1 s.1)

  -- a front of w is left behind p
  abbrev Left : ℕ → List Sym → Type 0
  Left p w = (u : List Sym) × (v : List Sym) × Rest passes t p u × (w ≡ u ++ v)

  module _ (d : Distinct t) (n0 : In t 0 → ⊥) where
    -- the step rule at a position that is an atom, and at the beginning
    inner : (p q : ℕ) → In t p → Next P p q → Follow t p q
    inner p q i (inl f) = absurd (n0 (subst (In t) f.0 i))
    inner p q i (inr f) = (follow_is t p q).0 f

    outer : (p q : ℕ) → p ≡ 0 → Next P p q → First t q
    outer p q e (inl f) = (first_is t q).0 f.1
    outer p q e (inr f) = absurd (n0 (subst (In t) e (follow_in t p q ((follow_is t p q).0 f)).0))

    ahead_in : (S : ℕ → Type 0) (a : Sym) (q : ℕ) → Ahead passes P S a q → In t q
    ahead_in S a q h =
        elim h.1.2 [ inl f ↦ first_in t q ((first_is t q).0 f.1) | inr f ↦ (follow_in t h.1.0 q ((follow_is t h.1.0 q).0 f)).1 ]

    reach_rest : (S : ℕ → Type 0) → ((p : ℕ) → S p → In t p) → (w : List Sym) → Meets (Reach passes P S w) P.last → (p : ℕ) × S p × Rest passes t p w
    reach_rest S i [] h = (h.0, h.1, last_rest passes t h.0 ((last_is t h.0).0 h.2))
    reach_rest S i (a ∷ w) h =
        let m = reach_rest (Ahead passes P S a) (ahead_in S a) w h in
        let s = m.1.1 in
        (s.0, s.1, steps_rest passes t d s.0 m.0 a w (inner s.0 m.0 (i s.0 s.1) s.2) m.1.0 m.2)

    ahead_word : (a : Sym) (w : List Sym) → Meets (Reach passes P Begin (a ∷ w)) P.last → Word passes t (a ∷ w)
    ahead_word a w h =
        let m = reach_rest (Ahead passes P Begin a) (ahead_in Begin a) w h in
        let s = m.1.1 in
        starts_word passes t d m.0 a w (outer s.0 m.0 s.1 s.2) m.1.0 m.2

    back_rest : (w : List Sym) (p : ℕ) (a : Sym) → In t p → Backed passes P (a ∷ w) p → T (passes p a) × Left p w
    back_rest w p a i (inl e) = absurd (n0 (subst (In t) e i))
    back_rest w p a i (inr (x, inl h)) = (x, ([], w, last_rest passes t p ((last_is t p).0 h.0), refl))
    back_rest [] p a i (inr (x, inr h)) = absurd (n0 (subst (In t) h.1 (follow_in t p h.0 ((follow_is t p h.0).0 h.2)).1))
    back_rest (b ∷ w) p a i (inr (x, inr (q, s, f))) =
        let f' = (follow_is t p q).0 f in
        let r = back_rest w q b (follow_in t p q f').1 s in
        let c = r.1 in
        (x, (b ∷ c.0, c.1, steps_rest passes t d p q b c.0 f' r.0 c.2, ap (λ v. b ∷ v) c.3))

    back_word : (w : List Sym) → Meets (Backed passes P w) P.first → Begins (Word passes t) w
    back_word [] (p, s, f) = absurd (n0 (subst (In t) s (first_in t p ((first_is t p).0 f))))
    back_word (a ∷ w) (p, s, f) =
        let f' = (first_is t p).0 f in
        let r = back_rest w p a (first_in t p f') s in
        let c = r.1 in
        (a, c.0, c.1, starts_word passes t d p a c.0 f' r.0 c.2, ap (λ v. a ∷ v) c.3)

    tree_tells : Tell passes P (Word passes t)
    tree_tells =
        record {
          ahead = λ a w. (ahead_word a w, word_ahead a w);
          empty = (null_word passes t, word_null passes t);
          back = λ w. (back_word w, λ c. rw c.4 (word_back c.0 c.1 c.2 c.3));
        }

pub tells : {Sym : Type 0} (passes : ℕ → Sym → Bool) (o : Option Tree) → FromOne o → Tell passes (positions o) (Words passes o)
tells passes None h =
    record {
      ahead = λ a w. (λ x. x.2, λ x. absurd x);
      empty = (λ x. x, λ x. x);
      back = λ w. (λ x. absurd x.2, λ x. absurd x.3);
    }
tells passes (Some t) h = tree_tells passes t (distinct t 1 h) (no_zero t h)
