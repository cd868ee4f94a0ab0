-- Rows of lexemes: one lexeme more, and the definition by recursion over the text.
use Rattle.std.proofs.Common.{◌≡◌, ℕ, zero, suc, ◌+◌, ◌-◌, ◌<◌, List, [], ◌∷◌, ◌++◌, length, take, drop, Ok, Err, sym, refl, ap, ◌∙◌, subst, append-nil, add-zero, arith}
use Rattle.refusal.specs.declared.Refusal.{Refusal}
use Rattle.items.specs.declared.Placed.{Placed}
use Rattle.items.specs.declared.Token.{Token}
use Rattle.items.specs.declared.Token.TheVariants.{Space, Sign, Atom}
use Rattle.reader.specs.Rows.{Lexer, Found, found, Stands, Row, with_item, items, with_test, tests}
use Rattle.reader.specs.Reading.{with_found, then_behind, lex}
use Rattle.reader.specs.Steps.{kept}

module _ {T : Type 0} (lexed : Lexer T) where
  -- one lexeme more
  pub row_more : (p : ℕ) (bs : List ℕ) (fs : List (Found T)) (q : ℕ) (rest : List ℕ) (f : Found T) (w : ℕ)
      → Row lexed p bs fs q rest → Stands lexed q rest f w → Row lexed p bs (fs ++ f ∷ []) (q + w) (drop w rest)
  row_more p bs [] q rest f w (e, d) s = (w, subst (λ z. Stands lexed z bs f w) (sym e) (subst (λ z. Stands lexed q z f w) (sym d) s), (ap (λ z. z + w) e, ap (drop w) d))
  row_more p bs (g ∷ fs) q rest f w (v, t, r) s = (v, t, row_more (p + v) (drop v bs) fs q rest f w r s)

  -- the bytes of a lexeme are passed
  skip : (q k : ℕ) (bs : List ℕ) → lex lexed q k bs ≡ lex lexed (q + k) 0 (drop k bs)
  skip q zero bs = ap (λ n. lex lexed n 0 bs) (sym (add-zero q))
  skip q (suc k) [] = refl
  skip q (suc k) (b ∷ bs) =
      let e : q + 1 + k ≡ q + suc k = omega arith in
      skip (q + 1) k bs ∙ ap (λ n. lex lexed n 0 (drop k bs)) e

  behind : (p w : ℕ) (b : ℕ) (bs : List ℕ) → 0 < w → lex lexed (p + 1) (w - 1) bs ≡ lex lexed (p + w) 0 (drop w (b ∷ bs))
  behind p zero b bs h = let no : ⊥ = omega arith in absurd no
  behind p (suc k) b bs h =
      let e : suc k - 1 ≡ k = omega arith in
      let far : p + 1 + k ≡ p + suc k = omega arith in
      ap (λ n. lex lexed (p + 1) n bs) e ∙ skip (p + 1) k bs ∙ ap (λ n. lex lexed n 0 (drop k bs)) far

  step : (p : ℕ) (bs : List ℕ) (f : Found T) (w : ℕ) → Stands lexed p bs f w → lex lexed p 0 bs ≡ with_found f (lex lexed (p + w) 0 (drop w bs))
  step p [] f w s = let no : ⊥ = omega (arith, s.wide, s.within) in absurd no
  step p (b ∷ bs) f w s =
      ap (λ z. then_behind p z (λ v. lex lexed (p + 1) (v - 1) bs)) s.is
      ∙ (λ i. with_found (found f.token (sym s.here i)) (behind p w b bs s.wide i))

  -- the definition finds the lexemes of a row
  pub row_lex : (p : ℕ) (bs : List ℕ) (fs : List (Found T)) (q : ℕ) → Row lexed p bs fs q [] → lex lexed p 0 bs ≡ Ok fs
  row_lex p bs [] q (e, d) = ap (lex lexed p 0) d
  row_lex p bs (f ∷ fs) q (w, s, r) = step p bs f w s ∙ ap (with_found f) (row_lex (p + w) (drop w bs) fs q r)

  refused_here : (p : ℕ) (bs : List ℕ) (e : Refusal) → 0 < length bs → lexed p bs ≡ Err e → lex lexed p 0 bs ≡ Err e
  refused_here p [] e h d = let no : ⊥ = omega arith in absurd no
  refused_here p (b ∷ bs) e h d = ap (λ z. then_behind p z (λ v. lex lexed (p + 1) (v - 1) bs)) d

  -- and what is refused behind some lexemes
  pub row_stop : (p : ℕ) (bs : List ℕ) (fs : List (Found T)) (q : ℕ) (rest : List ℕ) (e : Refusal)
      → Row lexed p bs fs q rest → 0 < length rest → lexed q rest ≡ Err e → lex lexed p 0 bs ≡ Err e
  row_stop p bs [] q rest e (a, d) h k = (λ i. lex lexed (a i) 0 (d i)) ∙ refused_here q rest e h k
  row_stop p bs (f ∷ fs) q rest e (w, s, r) h k = step p bs f w s ∙ ap (with_found f) (row_stop (p + w) (drop w bs) fs q rest e r h k)

items_token : {T : Type 0} (t : Token T) (p : ℕ) (xs ys : List Placed) → with_item t p (xs ++ ys) ≡ with_item t p xs ++ ys
items_token Space p xs ys = refl
items_token (Sign s) p xs ys = refl
items_token (Atom t) p xs ys = refl

pub items_more : {T : Type 0} (fs : List (Found T)) (f : Found T) → items (fs ++ f ∷ []) ≡ items fs ++ with_item f.token f.place []
items_more [] f = refl
items_more (g ∷ fs) f = ap (with_item g.token g.place) (items_more fs f) ∙ items_token g.token g.place (items fs) (with_item f.token f.place [])

tests_token : {T : Type 0} (t : Token T) (xs ys : List T) → with_test t (xs ++ ys) ≡ with_test t xs ++ ys
tests_token Space xs ys = refl
tests_token (Sign s) xs ys = refl
tests_token (Atom t) xs ys = refl

pub tests_append : {T : Type 0} (fs gs : List (Found T)) → tests (fs ++ gs) ≡ tests fs ++ tests gs
tests_append [] gs = refl
tests_append (g ∷ fs) gs = ap (with_test g.token) (tests_append fs gs) ∙ tests_token g.token (tests fs) (tests gs)

take_again : {T : Type 0} (m : ℕ) (xs : List T) (t : T) → take m (take m xs ++ t ∷ []) ≡ take m (xs ++ t ∷ [])
take_again zero xs t = refl
take_again (suc m) [] t = refl
take_again (suc m) (x ∷ xs) t = ap (λ z. x ∷ z) (take_again m xs t)

kept_token : {T : Type 0} (t : Token T) (xs : List T) → kept t (take 63 xs) ≡ take 63 (xs ++ with_test t [])
kept_token Space xs = ap (take 63) (sym (append-nil xs))
kept_token (Sign s) xs = ap (take 63) (sym (append-nil xs))
kept_token (Atom t) xs = take_again 63 xs t

pub tests_more : {T : Type 0} (fs : List (Found T)) (f : Found T) → kept f.token (take 63 (tests fs)) ≡ take 63 (tests (fs ++ f ∷ []))
tests_more fs f = kept_token f.token (tests fs) ∙ ap (take 63) (sym (tests_append fs (f ∷ [])))
