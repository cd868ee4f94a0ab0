-- What the sets of a lawful machine say of words.
use Rattle.std.proofs.Common.{◌≡◌, ℕ, zero, suc, ◌+◌, ◌<◌, ◌≤◌, Bool, T, ◌↔◌, List, [], ◌∷◌, length, take, drop, sym, ap, ◌∙◌, inl, inr, not-suc-le-zero, arith, length-append, take-append-drop}
use lib.Seq.{take-append_seam}
use Rattle.theory.specs.Words.{Begins}
use Rattle.theory.specs.Positions.{Positions}
use Rattle.theory.specs.Steps.{Begin, Ahead, Reach, Back, Backed, Tell}
use Rattle.theory.specs.Machine.{Machine, Has, Lawful}
use Rattle.theory.specs.Scans.{reach, backs}

module _ {Sym : Type 0} (passes : ℕ → Sym → Bool) (P : Positions) where
  ahead_mono : (S R : ℕ → Type 0) (a : Sym) → ((p : ℕ) → S p → R p) → (p : ℕ) → Ahead passes P S a p → Ahead passes P R a p
  ahead_mono S R a f p h = (h.0, (h.1.0, f h.1.0 h.1.1, h.1.2))

  reach_mono : (w : List Sym) (S R : ℕ → Type 0) → ((p : ℕ) → S p → R p) → (p : ℕ) → Reach passes P S w p → Reach passes P R w p
  reach_mono [] S R f p h = f p h
  reach_mono (a ∷ w) S R f p h = reach_mono w (Ahead passes P S a) (Ahead passes P R a) (ahead_mono S R a f) p h

  back_mono : (S R : ℕ → Type 0) (a : Sym) → ((p : ℕ) → S p → R p) → (p : ℕ) → Back passes P S a p → Back passes P R a p
  back_mono S R a f p (inl e) = inl e
  back_mono S R a f p (inr (x, inl h)) = inr (x, inl (h.0, f 0 h.1))
  back_mono S R a f p (inr (x, inr h)) = inr (x, inr (h.0, f h.0 h.1, h.2))

-- w has a front of k symbols, not empty, in L
abbrev pub Fits : {Sym : Type 0} → (List Sym → Type 0) → List Sym → ℕ → Type 0
Fits L w k = (0 < k) × (k ≤ length w) × L (take k w)

begins_fits : {Sym : Type 0} (L : List Sym → Type 0) (w : List Sym) → Begins L w → (k : ℕ) × Fits L w k
begins_fits L w (a, u, v, l, e) =
    let n : length w ≡ suc (length u + length v) = ap length e ∙ ap suc (length-append u v) in
    (suc (length u), (omega arith, omega arith, rw (e, take-append_seam u v) l))

fits_begins : {Sym : Type 0} (L : List Sym → Type 0) (w : List Sym) → (k : ℕ) × Fits L w k → Begins L w
fits_begins L w (zero, h) = absurd (not-suc-le-zero h.0)
fits_begins L [] (suc k, h) = absurd (not-suc-le-zero h.1)
fits_begins L (a ∷ w) (suc k, h) = (a, take k w, drop k w, h.2, ap (λ v. a ∷ v) (sym (take-append-drop k w)))

module _ {Sym Set : Type 0} (passes : ℕ → Sym → Bool) (P : Positions) (m : Machine Sym Set) (lawful : Lawful passes P m) where
  reach_has : (w : List Sym) (S : Set) (p : ℕ) → Has m (reach m S w) p ↔ Reach passes P (Has m S) w p
  reach_has [] S p = (λ h. h, λ h. h)
  reach_has (a ∷ w) S p =
      let e = reach_has w (m.ahead S a) p in
      let s = lawful.ahead_is S a in (
        λ h. reach_mono passes P w (Has m (m.ahead S a)) (Ahead passes P (Has m S) a) (λ q. (s q).0) p (e.0 h),
        λ h. e.1 (reach_mono passes P w (Ahead passes P (Has m S) a) (Has m (m.ahead S a)) (λ q. (s q).1) p h),
      )

  begun_has : (w : List Sym) (p : ℕ) → Has m (reach m m.begin w) p ↔ Reach passes P Begin w p
  begun_has w p = (
    λ h. reach_mono passes P w (Has m m.begin) Begin (λ q. (lawful.begin_is q).0) p ((reach_has w m.begin p).0 h),
    λ h. (reach_has w m.begin p).1 (reach_mono passes P w Begin (Has m m.begin) (λ q. (lawful.begin_is q).1) p h),
  )

  backs_has : (w : List Sym) (p : ℕ) → Has m (backs m w) p ↔ Backed passes P w p
  backs_has [] p = lawful.begin_is p
  backs_has (a ∷ w) p =
      let s = lawful.back_is (backs m w) a p in (
        λ h. back_mono passes P (Has m (backs m w)) (Backed passes P w) a (λ q. (backs_has w q).0) p (s.0 h),
        λ h. s.1 (back_mono passes P (Backed passes P w) (Has m (backs m w)) a (λ q. (backs_has w q).1) p h),
      )

  -- an empty set leads to no other
  pub dead : (S : Set) → ((p : ℕ) → Has m S p → ⊥) → (w : List Sym) (p : ℕ) → Has m (reach m S w) p → ⊥
  dead S n [] p h = n p h
  dead S n (a ∷ w) p h = dead (m.ahead S a) (λ q k. let s = (lawful.ahead_is S a q).0 k in n s.1.0 s.1.1) w p h

  module _ (L : List Sym → Type 0) (tell : Tell passes P L) where
    -- the machine's ahead and back laws
    pub last_says : (a : Sym) (w : List Sym) → T (m.last (reach m m.begin (a ∷ w))) ↔ L (a ∷ w)
    last_says a w = (
      λ h.
          let s = (lawful.last_is (reach m m.begin (a ∷ w))).0 h in
          (tell.ahead a w).0 (s.0, (begun_has (a ∷ w) s.0).0 s.1, s.2),
      λ h.
          let s = (tell.ahead a w).1 h in
          (lawful.last_is (reach m m.begin (a ∷ w))).1 (s.0, (begun_has (a ∷ w) s.0).1 s.1, s.2),
    )

    pub first_says : (w : List Sym) → T (m.first (backs m w)) ↔ Begins L w
    first_says w = (
      λ h. let s = (lawful.first_is (backs m w)).0 h in (tell.back w).0 (s.0, (backs_has w s.0).0 s.1, s.2),
      λ h. let s = (tell.back w).1 h in (lawful.first_is (backs m w)).1 (s.0, (backs_has w s.0).1 s.1, s.2),
    )

    pub ahead_says : (w : List Sym) (k : ℕ) → Fits (λ u. T (m.last (reach m m.begin u))) w k ↔ Fits L w k
    ahead_says w zero = (λ h. absurd (not-suc-le-zero h.0), λ h. absurd (not-suc-le-zero h.0))
    ahead_says [] (suc k) = (λ h. absurd (not-suc-le-zero h.1), λ h. absurd (not-suc-le-zero h.1))
    ahead_says (a ∷ w) (suc k) = (
      λ h. (h.0, h.1, (last_says a (take k w)).0 h.2),
      λ h. (h.0, h.1, (last_says a (take k w)).1 h.2),
    )

    pub back_says : (w : List Sym) → T (m.first (backs m w)) ↔ ((k : ℕ) × Fits L w k)
    back_says w = (λ h. begins_fits L w ((first_says w).0 h), λ h. (first_says w).1 (fits_begins L w h))
