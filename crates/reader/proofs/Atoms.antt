-- The atoms of a row of lexemes: each has a test, and one past a number is found.
use Rattle.std.proofs.Common.{◌≡◌, ℕ, zero, suc, ◌+◌, ◌≤◌, List, [], ◌∷◌, ◌++◌, length, Some, None, Option, sym, refl, ap, ◌∙◌, arith, length-append}
use Rattle.items.specs.declared.Placed.{Placed}
use Rattle.items.specs.declared.Token.{Token}
use Rattle.items.specs.declared.Token.TheVariants.{Space, Sign, Atom}
use Rattle.grammar.specs.Grammar.{atoms}
use Rattle.reader.specs.Rows.{Found, with_item, items, with_test, tests, surplus}
use Rattle.reader.proofs.Rows.{tests_append}

-- each atom has a test
atoms_token : {T : Type 0} (t : Token T) (p : ℕ) (xs : List Placed) (ts : List T) → atoms xs ≡ length ts → atoms (with_item t p xs) ≡ length (with_test t ts)
atoms_token Space p xs ts e = e
atoms_token (Sign s) p xs ts e = omega (arith, e)
atoms_token (Atom t) p xs ts e = omega (arith, e)

pub atoms_tests : {T : Type 0} (fs : List (Found T)) → atoms (items fs) ≡ length (tests fs)
atoms_tests [] = refl
atoms_tests (f ∷ fs) = atoms_token f.token f.place (items fs) (tests fs) (atoms_tests fs)

-- where the 64th atom stands
pub record Split {T : Type 0} (n : ℕ) (fs : List (Found T)) (p : ℕ) : Type 0 where
  pub before : List (Found T)
  pub here : Found T
  pub after : List (Found T)
  pub test : T
  pub whole : fs ≡ before ++ here ∷ after
  pub number : length (tests before) ≡ n
  pub is : here.token ≡ Atom test
  pub place : here.place ≡ p

module _ {T : Type 0} where
  -- what the count says
  abbrev pub Tells : ℕ → List (Found T) → Option ℕ → Type 0
  Tells n fs (Some p) = Split n fs p
  Tells n fs None = length (tests fs) ≤ n

  longer : (n m : ℕ) (f : Found T) (fs : List (Found T)) (o : Option ℕ) → Tells m fs o
      → ((us : List (Found T)) → length (tests us) ≡ m → length (tests (f ∷ us)) ≡ n) → (length (tests fs) ≤ m → length (tests (f ∷ fs)) ≤ n) → Tells n (f ∷ fs) o
  longer n m f fs (Some p) s same few =
      record {
        before = f ∷ s.before;
        here = s.here;
        after = s.after;
        test = s.test;
        whole = ap (λ z. f ∷ z) s.whole;
        number = same s.before s.number;
        is = s.is;
        place = s.place;
      }
  longer n m f fs None s same few = few s

  tells_token : (n : ℕ) (f : Found T) (fs : List (Found T)) (t : Token T) → f.token ≡ t → ((m : ℕ) → Tells m fs (surplus m (items fs)))
      → Tells n (f ∷ fs) (surplus n (with_item t f.place (items fs)))
  tells_token n f fs Space e ih =
      longer n n f fs (surplus n (items fs)) (ih n) (λ us h. ap (λ z. length (with_test z (tests us))) e ∙ h)
      (λ h. let q : length (with_test f.token (tests fs)) ≡ length (tests fs) = ap (λ z. length (with_test z (tests fs))) e in omega arith)
  tells_token n f fs (Sign s) e ih =
      longer n n f fs (surplus n (items fs)) (ih n) (λ us h. ap (λ z. length (with_test z (tests us))) e ∙ h)
      (λ h. let q : length (with_test f.token (tests fs)) ≡ length (tests fs) = ap (λ z. length (with_test z (tests fs))) e in omega arith)
  tells_token zero f fs (Atom t) e ih = record { before = []; here = f; after = fs; test = t; whole = refl; number = refl; is = e; place = refl }
  tells_token (suc n) f fs (Atom t) e ih =
      longer (suc n) n f fs (surplus n (items fs)) (ih n) (λ us h. ap (λ z. length (with_test z (tests us))) e ∙ ap suc h)
      (λ h. let q : length (with_test f.token (tests fs)) ≡ suc (length (tests fs)) = ap (λ z. length (with_test z (tests fs))) e in omega arith)

  pub tells : (n : ℕ) (fs : List (Found T)) → Tells n fs (surplus n (items fs))
  tells n [] = omega arith
  tells n (f ∷ fs) = tells_token n f fs f.token refl (λ m. tells m fs)

  -- an atom is past n only where there are more than n
  pub none_past : (n : ℕ) (fs : List (Found T)) (p : ℕ) → Split n fs p → length (tests fs) ≤ n → ⊥
  none_past n fs p s h =
      let e : length (tests fs) ≡ length (tests s.before) + length (tests (s.here ∷ s.after)) = ap (λ z. length (tests z)) s.whole ∙ ap length (tests_append s.before (s.here ∷ s.after)) ∙ length-append (tests s.before) (tests (s.here ∷ s.after)) in
      let d : length (tests (s.here ∷ s.after)) ≡ suc (length (tests s.after)) = ap (λ z. length (with_test z (tests s.after))) s.is in
      omega (arith, e, d, s.number)

  -- an atom behind n others is found
  found_token : (n : ℕ) (f : Found T) (us : List (Found T)) (xs : List Placed) (p : ℕ) (t : Token T) → f.token ≡ t → length (tests (f ∷ us)) ≡ n
      → ((m : ℕ) → length (tests us) ≡ m → surplus m xs ≡ Some p) → surplus n (with_item t f.place xs) ≡ Some p
  found_token n f us xs p Space e h ih = ih n (sym (ap (λ z. length (with_test z (tests us))) e) ∙ h)
  found_token n f us xs p (Sign s) e h ih = ih n (sym (ap (λ z. length (with_test z (tests us))) e) ∙ h)
  found_token zero f us xs p (Atom t) e h ih =
      let q : length (with_test f.token (tests us)) ≡ suc (length (tests us)) = ap (λ z. length (with_test z (tests us))) e in
      let no : ⊥ = omega arith in
      absurd no
  found_token (suc n) f us xs p (Atom t) e h ih =
      let q : length (with_test f.token (tests us)) ≡ suc (length (tests us)) = ap (λ z. length (with_test z (tests us))) e in
      ih n (omega arith)

  pub found_past : (n : ℕ) (fs gs : List (Found T)) (f : Found T) (t : T) → length (tests fs) ≡ n → f.token ≡ Atom t → surplus n (items (fs ++ f ∷ gs)) ≡ Some f.place
  found_past n [] gs f t h e = (λ i. surplus (sym h i) (with_item (e i) f.place (items gs)))
  found_past n (g ∷ fs) gs f t h e = found_token n g fs (items (fs ++ f ∷ gs)) f.place g.token refl h (λ m k. found_past m fs gs f t k e)

  few_by : (n : ℕ) (fs : List (Found T)) → length (tests fs) ≤ n → (o : Option ℕ) → Tells n fs o → o ≡ None
  few_by n fs h (Some p) s = absurd (none_past n fs p s h)
  few_by n fs h None s = refl

  -- none is past n where there are no more than n
  pub few_none : (n : ℕ) (fs : List (Found T)) → length (tests fs) ≤ n → surplus n (items fs) ≡ None
  few_none n fs h = few_by n fs h (surplus n (items fs)) (tells n fs)
