-- Find by two scans answers the leftmost, then longest, match; and there is one such answer.
use Rattle.std.proofs.Common.{◌≡◌, ℕ, zero, suc, ◌+◌, ◌-◌, ◌≤◌, Bool, true, false, cond, T, ◌⊎◌, List, [], ◌∷◌, take, drop, Some, None, Option, sym, refl, ap, ◌∙◌, subst, inl, inr, le_of_suc-le-suc, not-suc-le-zero, arith, length-drop, drop-drop}
use lib.Seq.{drop-nil}
use Rattle.theory.specs.declared.Span.{Span}
use Rattle.theory.specs.Positions.{Positions}
use Rattle.theory.specs.Steps.{Tell}
use Rattle.theory.specs.Spans.{Match, Finds}
use Rattle.theory.specs.Machine.{Machine, Lawful}
use Rattle.theory.specs.Scans.{reach, backs, start, far, from_start, find}
use Rattle.theory.proofs.Sets.{Fits, dead, ahead_says, back_says}

abbrev pub span : ℕ → ℕ → Span
span s e = record { start = s; end = e }

-- the relation has one answer
pub finds_one : {Sym : Type 0} (L : List Sym → Type 0) (r : List Sym) (from : ℕ) (f g : Option Span) → Finds L r from f → Finds L r from g → f ≡ g
finds_one L r from None None x y = refl
finds_one L r from None (Some z) x y = absurd (x z y.behind y.match)
finds_one L r from (Some z) None x y = absurd (y z x.behind x.match)
finds_one L r from (Some x) (Some y) f g =
    let le : x.start ≤ y.start = f.leftmost y g.behind g.match in
    let ge : y.start ≤ x.start = g.leftmost x f.behind f.match in
    let same : x.start ≡ y.start = omega arith in
    let a : y.end ≤ x.end = f.longest y.end (subst (λ s. Match L r (span s y.end)) (sym same) g.match) in
    let b : x.end ≤ y.end = g.longest x.end (subst (λ s. Match L r (span s x.end)) same f.match) in
    let q : x.end ≡ y.end = omega arith in
    ap (λ s. Some (span s x.end)) same ∙ ap (λ e. Some (span y.start e)) q

-- what the ahead scan keeps: the furthest fit, or what it began with
abbrev Furthest : (ℕ → Type 0) → ℕ → ℕ → ℕ → Type 0
Furthest P b i e = ((e ≡ b) × ((k : ℕ) → P k → ⊥)) ⊎ ((k : ℕ) × P k × (e ≡ i + k) × ((k' : ℕ) → P k' → k' ≤ k))

furthest_more : (P Q : ℕ → Type 0) (l : Bool) (b i e : ℕ) → ((k : ℕ) → P k → ((k ≡ 1) × T l) ⊎ ((j : ℕ) × (k ≡ suc j) × Q j)) → (T l → P 1) → ((k : ℕ) → Q k → P (suc k)) → Furthest Q (cond l (suc i) b) (suc i) e → Furthest P b i e
furthest_more P Q true b i e down one up (inl (q, n)) =
    inr (1, one tt, omega arith, λ k h. elim (down k h) [ inl c ↦ omega (arith, c.0) | inr c ↦ absurd (n c.0 c.2) ])
furthest_more P Q false b i e down one up (inl (q, n)) =
    inl (q, λ k h. elim (down k h) [ inl c ↦ c.1 | inr c ↦ n c.0 c.2 ])
furthest_more P Q l b i e down one up (inr (k, x, q, most)) =
    inr (suc k, up k x, omega arith, λ k' h. elim (down k' h) [ inl c ↦ omega (arith, c.0) | inr c ↦ omega (arith, c.1, most c.0 c.2) ])

-- what the back scan keeps: the smallest place
abbrev Smallest : (ℕ → Type 0) → ℕ → Option ℕ → Type 0
Smallest P i None = (j : ℕ) → P j → ⊥
Smallest P i (Some s) = (j : ℕ) × (s ≡ i + j) × P j × ((j' : ℕ) → P j' → j ≤ j')

smallest_more : (P : ℕ → Type 0) (i : ℕ) (o : Option ℕ) → (P 0 → ⊥) → Smallest (λ j. P (suc j)) (suc i) o → Smallest P i o
smallest_more P i None n h = elim [ zero ↦ n | suc j ↦ h j ]
smallest_more P i (Some s) n (j, e, p, least) = (suc j, omega arith, p, go)
  where
    go : (j' : ℕ) → P j' → suc j ≤ j'
    go zero q = absurd (n q)
    go (suc j') q = omega (arith, least j' q)

-- matches as fits
module _ {Sym : Type 0} (L : List Sym → Type 0) (r : List Sym) where
  match_fits : (x : Span) → Match L r x → Fits L (drop x.start r) (x.end - x.start)
  match_fits x h = (omega (arith, h.some), omega (arith, h.some, h.inside, length-drop x.start r), h.word)

  fits_match : (s k : ℕ) → Fits L (drop s r) k → Match L r (span s (s + k))
  fits_match s k h =
      let e : s + k - s ≡ k = omega arith in
      record { some = omega (arith, h.0); inside = omega (arith, h.0, h.1, length-drop s r); word = rw e h.2 }

  from_drop : (from s : ℕ) → from ≤ s → drop (s - from) (drop from r) ≡ drop s r
  from_drop from s h = let e : from + (s - from) ≡ s = omega arith in drop-drop (s - from) from r ∙ ap (λ k. drop k r) e

module _ {Sym Set : Type 0} (passes : ℕ → Sym → Bool) (P : Positions) (m : Machine Sym Set) (lawful : Lawful passes P m) where
  abbrev Held : Set → List Sym → ℕ → Type 0
  Held S w k = Fits (λ u. T (m.last (reach m S u))) w k

  held_down : (S : Set) (a : Sym) (w : List Sym) (k : ℕ) → Held S (a ∷ w) k → ((k ≡ 1) × T (m.last (m.ahead S a))) ⊎ ((j : ℕ) × (k ≡ suc j) × Held (m.ahead S a) w j)
  held_down S a w zero h = absurd (not-suc-le-zero h.0)
  held_down S a w (suc zero) h = inl (refl, h.2)
  held_down S a w (suc (suc j)) h = inr (suc j, refl, (omega arith, le_of_suc-le-suc h.1, h.2))

  held_none : (S : Set) (a : Sym) (w : List Sym) → T (m.empty (m.ahead S a)) → (k : ℕ) → Held S (a ∷ w) k → ⊥
  held_none S a w n zero h = absurd (not-suc-le-zero h.0)
  held_none S a w n (suc k) h =
      let s = (lawful.last_is (reach m (m.ahead S a) (take k w))).0 h.2 in
      dead passes P m lawful (m.ahead S a) ((lawful.empty_is (m.ahead S a)).0 n) (take k w) s.0 s.1

  far_is : (b i : ℕ) (S : Set) (w : List Sym) → Furthest (Held S w) b i (far m b i S w)
  far_is b i S [] = inl (refl, λ k h. omega (arith, h.0, h.1))
  far_is b i S (a ∷ w) =
      let S' : Set = m.ahead S a in
      let b' : ℕ = cond (m.last S') (suc i) b in
      let ih : Furthest (Held S' w) b' (suc i) (far m b' (suc i) S' w) = far_is b' (suc i) S' w in
      (elim (m.empty S') as
      (λ x. (T x → (k : ℕ) → Held S (a ∷ w) k → ⊥) → Furthest (Held S (a ∷ w)) b i (cond x b (far m b' (suc i) S' w))) [
        | true ↦ λ n. inl (refl, n tt)
        | false ↦ λ n. furthest_more (Held S (a ∷ w)) (Held S' w) (m.last S') b i (far m b' (suc i) S' w) (held_down S a w)
            (λ x. (omega arith, omega arith, x)) (λ k h. (omega arith, omega (arith, h.1), h.2)) ih
      ]) (held_none S a w)

  abbrev Marked : List Sym → ℕ → Type 0
  Marked w j = T (m.first (backs m (drop j w)))

  start_is : (T (m.first m.begin) → ⊥) → (i : ℕ) (w : List Sym) → Smallest (Marked w) i (start m i w)
  start_is n i [] = λ j p. n (rw (drop-nil j) at p)
  start_is n i (a ∷ w) =
      let ih : Smallest (Marked w) (suc i) (start m (suc i) w) = start_is n (suc i) w in
      (elim (m.first (backs m (a ∷ w))) as
      (λ x. x ≡ m.first (backs m (a ∷ w)) → Smallest (Marked (a ∷ w)) i (cond x (Some i) (start m (suc i) w))) [
        | true ↦ λ e. (0, omega arith, subst T e tt, λ j p. omega arith)
        | false ↦ λ e. smallest_more (Marked (a ∷ w)) i (start m (suc i) w) (λ p. subst T (sym e) p) ih
      ]) refl

  module _ (L : List Sym → Type 0) (tell : Tell passes P L) where
    match_marked : (r : List Sym) (from : ℕ) (x : Span) → from ≤ x.start → Match L r x → Marked (drop from r) (x.start - from)
    match_marked r from x h y = rw (from_drop L r from x.start h) ((back_says passes P m lawful L tell (drop x.start r)).1 (x.end - x.start, match_fits L r x y))

    none_marked : T (m.first m.begin) → ⊥
    none_marked x = let k = (back_says passes P m lawful L tell []).0 x in omega (arith, k.1.0, k.1.1)

    longest : (r : List Sym) (s : ℕ) → Marked r s → (e : ℕ) → Furthest (Held m.begin (drop s r)) s s e → Match L r (span s e) × ((e' : ℕ) → Match L r (span s e') → e' ≤ e)
    longest r s x e (inl (q, n)) =
        let k = (back_says passes P m lawful L tell (drop s r)).0 x in absurd (n k.0 ((ahead_says passes P m lawful L tell (drop s r) k.0).1 k.1))
    longest r s x e (inr (k, h, q, most)) = (
      rw q (fits_match L r s k ((ahead_says passes P m lawful L tell (drop s r) k).0 h)),
      λ e' y. omega (arith, most (e' - s) ((ahead_says passes P m lawful L tell (drop s r) (e' - s)).1 (match_fits L r (span s e') y))),
    )

    -- the two scans answer what the relation asks
    pub find_finds : (r : List Sym) (from : ℕ) → Finds L r from (find m r from)
    find_finds r from = go (start m from (drop from r)) (start_is none_marked from (drop from r))
      where
        go : (o : Option ℕ) → Smallest (Marked (drop from r)) from o → Finds L r from (from_start m r o)
        go None h = λ y b x. h (y.start - from) (match_marked r from y b x)
        go (Some s) (j, e, p, least) =
            let q : drop j (drop from r) ≡ drop s r = drop-drop j from r ∙ ap (λ k. drop k r) (sym e) in
            let f = longest r s (rw q at p) (far m s s m.begin (drop s r)) (far_is s s m.begin (drop s r)) in
            record {
              behind = omega arith;
              match = f.0;
              leftmost = λ y b x. omega (arith, least (y.start - from) (match_marked r from y b x));
              longest = f.1;
            }
