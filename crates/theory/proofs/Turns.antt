-- One turn of each scan at a place of a record, in the shape of a loop that counts places.
use Rattle.std.proofs.Common.{◌≡◌, ℕ, suc, ◌+◌, ◌<◌, Bool, false, cond, List, [], ◌∷◌, ◌++◌, length, get_or, drop, Some, sym, ap, ◌∙◌, add-one}
use Rattle.std.proofs.lemmas.List.{drop_more}
use Rattle.theory.specs.declared.Direction.TheVariants as way
use Rattle.theory.specs.Machine.{Machine}
use Rattle.theory.specs.Scans.{backs, start, far, run}
use Rattle.theory.specs.Reads.{back_reads, ahead_reads}

-- d stands where the record has no symbol, and h says that it has one at i
module _ {Sym Set : Type 0} (m : Machine Sym Set) (r : List Sym) (i : ℕ) (d : Sym) (h : i < length r) where
  abbrev a : Sym
  a = get_or r i d

  abbrev w : List Sym
  w = drop (i + 1) r

  here : drop i r ≡ a ∷ w
  here = drop_more r i d h

  next : suc i ≡ i + 1
  next = sym (add-one i)

  -- back, from the place i + 1 with the set S to the place i with the set R, which holds a first position if x
  pub backs_turn : (S R : Set) → S ≡ backs m w → R ≡ m.back S a → R ≡ backs m (drop i r)
  backs_turn S R s e = e ∙ ap (λ y. m.back y a) s ∙ sym (ap (backs m) here)

  pub start_turn : (R : Set) (x : Bool) → R ≡ backs m (drop i r) → m.first R ≡ x → start m i (drop i r) ≡ cond x (Some i) (start m (i + 1) w)
  start_turn R x e f =
      ap (start m i) here ∙ ap (λ j. cond (m.first (backs m (a ∷ w))) (Some i) (start m j w)) next
      ∙ ap (λ y. cond y (Some i) (start m (i + 1) w)) (ap m.first (sym (e ∙ ap (backs m) here)) ∙ f)

  pub back_reads_turn : (S : Set) → S ≡ backs m w → back_reads m (drop i r) ≡ back_reads m w ++ (record { direction = way.Back; set = S; symbol = a } ∷ [])
  back_reads_turn S s =
      ap (back_reads m) here ∙ ap (λ y. back_reads m w ++ (record { direction = way.Back; set = y; symbol = a } ∷ [])) (sym s)

  -- ahead, from the place i with the set S to the place i + 1 with the set R, which is empty if x and holds a last position if l
  module _ (S R : Set) (e : R ≡ m.ahead S a) (x : Bool) (f : m.empty R ≡ x) where
    none : m.empty (m.ahead S a) ≡ x
    none = ap m.empty (sym e) ∙ f

    pub far_turn : (b : ℕ) (l : Bool) → m.last R ≡ l → far m b i S (drop i r) ≡ cond x b (far m (cond l (i + 1) b) (i + 1) R w)
    far_turn b l g =
        ap (far m b i S) here ∙ ap (λ j. cond (m.empty (m.ahead S a)) b (far m (cond (m.last (m.ahead S a)) j b) j (m.ahead S a) w)) next
        ∙ ap (λ y. cond y b (far m (cond (m.last (m.ahead S a)) (i + 1) b) (i + 1) (m.ahead S a) w)) none
        ∙ ap (λ T. cond x b (far m (cond (m.last T) (i + 1) b) (i + 1) T w)) (sym e)
        ∙ ap (λ y. cond x b (far m (cond y (i + 1) b) (i + 1) R w)) g

    pub run_turn : run m S (drop i r) ≡ cond x false (run m R w)
    run_turn = ap (run m S) here ∙ ap (λ y. cond y false (run m (m.ahead S a) w)) none ∙ ap (λ T. cond x false (run m T w)) (sym e)

    pub ahead_reads_turn : ahead_reads m S (drop i r) ≡ record { direction = way.Ahead; set = S; symbol = a } ∷ cond x [] (ahead_reads m R w)
    ahead_reads_turn =
        ap (ahead_reads m S) here
        ∙ ap (λ y. record { direction = way.Ahead; set = S; symbol = a } ∷ cond y [] (ahead_reads m (m.ahead S a) w)) none
        ∙ ap (λ T. record { direction = way.Ahead; set = S; symbol = a } ∷ cond x [] (ahead_reads m T w)) (sym e)
