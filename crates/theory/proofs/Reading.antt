-- How much a search reads, of any machine.
use Rattle.std.proofs.Common.{◌≡◌, ℕ, zero, suc, ◌+◌, ◌-◌, ◌*◌, ◌<◌, ◌≤◌, true, false, cond, T, ◌⊎◌, List, [], ◌∷◌, ◌++◌, map, reverse, length, take, drop, Some, None, Option, sym, refl, ap, ◌∙◌, subst, inl, inr, append-nil, arith, length-append, length-drop}
use mathlib.Core.List.{reverse-cons}
use Rattle.std.proofs.lemmas.List.{map-append}
use Rattle.theory.specs.declared.Direction.TheVariants as way
use Rattle.theory.specs.declared.Span.{Span}
use Rattle.theory.specs.Machine.{Machine}
use Rattle.theory.specs.Scans.{reach, backs, start, far, from_start, find}
use Rattle.theory.specs.Reads.{Read, back_reads, ahead_reads, start_reads, find_reads, next_reads, list_reads}
use Rattle.theory.specs.Theorems.{Reading}

module _ {Sym Set : Type 0} (m : Machine Sym Set) where
  abbrev symbols : List (Read Sym Set) → List Sym
  symbols = map (λ (x : Read Sym Set). x.symbol)

  back_symbols : (w : List Sym) → symbols (back_reads m w) ≡ reverse w
  back_symbols [] = refl
  back_symbols (a ∷ w) =
      map-append (λ (x : Read Sym Set). x.symbol) (back_reads m w) (record { direction = way.Back; set = backs m w; symbol = a } ∷ [])
      ∙ ap (λ u. u ++ (a ∷ [])) (back_symbols w) ∙ sym (reverse-cons a w)

  back_length : (w : List Sym) → length (back_reads m w) ≡ length w
  back_length [] = refl
  back_length (a ∷ w) =
      let e : length (back_reads m (a ∷ w)) ≡ length (back_reads m w) + 1 = length-append (back_reads m w) (record { direction = way.Back; set = backs m w; symbol = a } ∷ []) in
      let h = back_length w in
      omega arith

  abbrev read : Set → Sym → Read Sym Set
  read S a = record { direction = way.Ahead; set = S; symbol = a }

  abbrev Goes : Set → List Sym → List (Read Sym Set) → ℕ → Type 0
  Goes S w xs k =
      (k ≤ length w) × (symbols xs ≡ take k w) × ((j : ℕ) → 0 < j → j < k → T (m.empty (reach m S (take j w))) → ⊥)
      × ((k ≡ length w) ⊎ T (m.empty (reach m S (take k w))))

  stops : (S : Set) (a : Sym) (w : List Sym) → T (m.empty (m.ahead S a)) → Goes S (a ∷ w) (read S a ∷ []) 1
  stops S a w e = (omega arith, refl, λ j l h x. omega arith, inr e)

  goes_on_lem : (S : Set) (a : Sym) (w : List Sym) (xs : List (Read Sym Set)) (k : ℕ) → (T (m.empty (m.ahead S a)) → ⊥) → Goes (m.ahead S a) w xs k → Goes S (a ∷ w) (read S a ∷ xs) (suc k)
  goes_on_lem S a w xs k n (h, s, b, o) = (omega arith, ap (λ u. a ∷ u) s, between, elim o [ inl e ↦ inl (ap suc e) | inr e ↦ inr e ])
    where
      between : (j : ℕ) → 0 < j → j < suc k → T (m.empty (reach m S (take j (a ∷ w)))) → ⊥
      between zero l g x = omega arith
      between (suc zero) l g x = n x
      between (suc (suc j)) l g x = b (suc j) (omega arith) (omega arith) x

  goes : (S : Set) (w : List Sym) → Goes S w (ahead_reads m S w) (length (ahead_reads m S w))
  goes S [] = (omega arith, refl, λ j l h x. omega arith, inl refl)
  goes S (a ∷ w) =
      let ih = goes (m.ahead S a) w in
      (elim (m.empty (m.ahead S a)) as
      (λ x. x ≡ m.empty (m.ahead S a) → let xs = read S a ∷ cond x [] (ahead_reads m (m.ahead S a) w) in Goes S (a ∷ w) xs (length xs)) [
        | true ↦ λ e. stops S a w (subst T e tt)
        | false ↦ λ e. goes_on_lem S a w (ahead_reads m (m.ahead S a) w) (length (ahead_reads m (m.ahead S a) w)) (λ x. subst T (sym e) x) ih
      ]) refl

  ahead_most : (S : Set) (w : List Sym) → length (ahead_reads m S w) ≤ length w
  ahead_most S w = (goes S w).0

  emptied : (S : Set) (a : Sym) (w : List Sym) → T (m.empty (m.ahead S a)) → ahead_reads m S (a ∷ w) ≡ read S a ∷ []
  emptied S a w =
      elim (m.empty (m.ahead S a)) as (λ x. T x → read S a ∷ cond x [] (ahead_reads m (m.ahead S a) w) ≡ read S a ∷ [])
      [ true ↦ λ h. refl | false ↦ λ h. absurd h ]

  -- the start is not before the place at which w begins
  abbrev From : ℕ → Option ℕ → Type 0
  From i None = Unit {0}
  From i (Some s) = i ≤ s

  later : (i : ℕ) (o : Option ℕ) → From (suc i) o → From i o
  later i None h = tt
  later i (Some s) h = omega arith

  start_from : (i : ℕ) (w : List Sym) → From i (start m i w)
  start_from i [] = tt
  start_from i (a ∷ w) =
      let ih = later i (start m (suc i) w) (start_from (suc i) w) in
      elim (m.first (backs m (a ∷ w))) as (λ x. From i (cond x (Some i) (start m (suc i) w))) [ true ↦ omega arith | false ↦ ih ]

  start_most : (r : List Sym) (from : ℕ) (o : Option ℕ) → From from o → length (start_reads m r o) ≤ length r - from
  start_most r from None h = omega arith
  start_most r from (Some s) h = omega (arith, ahead_most m.begin (drop s r), length-drop s r)

  find_most : (r : List Sym) (from : ℕ) → length (find_reads m r from) ≤ 2 * (length r - from)
  find_most r from =
      let o : Option ℕ = start m from (drop from r) in
      omega (arith, length-append (back_reads m (drop from r)) (start_reads m r o), back_length (drop from r), length-drop from r, start_most r from o (start_from from (drop from r)))

  -- a find's answer says whether there is an ahead scan, and where it starts
  none_reads : (r : List Sym) (o : Option ℕ) → from_start m r o ≡ None → start_reads m r o ≡ []
  none_reads r None e = refl
  none_reads r (Some s) e = let z : ◌≡◌ {A = ℕ} 0 1 = cc in absurd (omega arith)

  found_reads : (r : List Sym) (o : Option ℕ) (x : Span) → from_start m r o ≡ Some x → start_reads m r o ≡ ahead_reads m m.begin (drop x.start r)
  found_reads r None x e = let z : ◌≡◌ {A = ℕ} 0 1 = cc in absurd (omega arith)
  found_reads r (Some s) x e =
      let same : record { start = s; end = far m s s m.begin (drop s r) } ≡ x = cc in
      ap (λ (y : Span). ahead_reads m m.begin (drop y.start r)) same

  list_done : (r : List Sym) (from entries : ℕ) → find m r from ≡ None → list_reads m r entries from ≡ find_reads m r from
  list_done r from zero e = refl
  list_done r from (suc k) e = ap (λ o. find_reads m r from ++ next_reads o (list_reads m r k)) e ∙ append-nil (find_reads m r from)

  list_next : (r : List Sym) (from entries : ℕ) (x : Span) → find m r from ≡ Some x → list_reads m r (suc entries) from ≡ find_reads m r from ++ list_reads m r entries x.end
  list_next r from k x e = ap (λ o. find_reads m r from ++ next_reads o (list_reads m r k)) e

  pub reading : Reading Sym Set m
  reading =
      record {
        back = λ r from. back_symbols (drop from r);
        back_exactly = λ r from. back_length (drop from r) ∙ length-drop from r;
        ahead = λ S w. let g = goes S w in record { within = g.0; symbols = g.1; between = g.2; over = g.3 };
        emptied = emptied;
        none = λ r from e.
            ap (λ xs. back_reads m (drop from r) ++ xs) (none_reads r (start m from (drop from r)) e) ∙ append-nil (back_reads m (drop from r));
        found = λ r from x e.
            ap (λ xs. back_reads m (drop from r) ++ xs) (found_reads r (start m from (drop from r)) x e);
        list_full = λ r from. refl;
        list_done = list_done;
        list_next = list_next;
        find_most = find_most;
        whole_most = λ r. ahead_most m.begin r;
      }
