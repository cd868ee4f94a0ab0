-- All values are read, and what is refused of them is refused as a whole.
use Rattle.std.proofs.Common.{◌≡◌, ℕ, ◌+◌, ◌<◌, ◌≤◌, true, false, ◌||◌, eqb, List, [], ◌∷◌, ◌++◌, length, drop, Ok, Err, Result, sym, refl, ap, ◌∙◌, subst, append_assoc, arith, length-append}
use Rattle.std.proofs.lemmas.List.{drop_at}
use Rattle.std.proofs.lemmas.Bool.{cond-true, cond-false, or_parts, or_from, le-leb, lt-leb, eqb-true}
use Rattle.refusal.specs.declared.Cause.TheVariants.{ReversedRange}
use Rattle.refusal.specs.declared.Refusal.{Refusal}
use Rattle.event_notation.specs.declared.span.Span.{Span}
use Rattle.event_notation.specs.Numbers.{digit, number_at}
use Rattle.event_notation.specs.Spans.{begins, after, between, range_from, range, colon, values}
use Rattle.event_notation.specs.Atoms.{Numeral, Form, dot, kind_alone, one_value, two_values, Values, goes_on, Ends}
use Rattle.event_notation.proofs.Numerals.{number_each}

pub begins_split : (c : ℕ) (bs : List ℕ) → begins c bs ≡ true → bs ≡ c ∷ drop 1 bs
begins_split c [] e = cc
begins_split c (b ∷ bs) e = ap (λ x. x ∷ bs) (eqb-true b c e)

pub ends_with : (c : ℕ) (bs : List ℕ) → Ends digit bs → begins c bs ≡ false → Ends (λ b. digit b || eqb b c) bs
ends_with c [] d e = tt
ends_with c (b ∷ bs) d e = or_from (digit b) (eqb b c) d e

ends_parts : (c : ℕ) (bs : List ℕ) → Ends (λ b. digit b || eqb b c) bs → Ends digit bs × (begins c bs ≡ false)
ends_parts c [] e = (tt, refl)
ends_parts c (b ∷ bs) e = or_parts (digit b) (eqb b c) e

same_span : (a b c d e f : ℕ) → a ≡ d → b ≡ e → c ≡ f → ◌≡◌ {A = Result Span Refusal} (Ok (record { low = a; high = b; width = c })) (Ok (record { low = d; high = e; width = f }))
same_span a b c d e f x y z = λ i. Ok (record { low = x i; high = y i; width = z i })

module _ (p : ℕ) (v : List ℕ) (low : ℕ) (num : Numeral 65535 v low) where
  first_each : (rest : List ℕ) → Ends digit rest → range p (v ++ rest) ≡ range_from p rest (record { value = low; width = length v })
  first_each rest ends =
      ap (λ r. after r (λ n. range_from p (drop n.width (v ++ rest)) n)) (number_each 65535 p v rest low num ends)
      ∙ ap (λ l. range_from p l (record { value = low; width = length v })) (drop_at v rest (length v) refl)

  one_each : (rest : List ℕ) → Ends (goes_on one_value) rest → range p (v ++ rest) ≡ Ok (record { low = low; high = low; width = length v })
  one_each rest ends = let parts = ends_parts 45 rest ends in first_each rest parts.0 ∙ cond-false _ _ _ parts.1

  two_each : (w : List ℕ) (high : ℕ) → Numeral 65535 w high → low ≤ high → (rest : List ℕ) → Ends digit rest
      → range p ((v ++ (45 ∷ w)) ++ rest) ≡ Ok (record { low = low; high = high; width = length v + 1 + length w })
  two_each w high second h rest ends =
      ap (range p) (append_assoc v (45 ∷ w) rest) ∙ first_each (45 ∷ (w ++ rest)) refl
      ∙ ap (λ r. after r (between p (record { value = low; width = length v }))) (number_each 65535 (p + length v + 1) w rest high second ends)
      ∙ cond-true _ _ _ (le-leb low high h)

  pub second_none : (rest : List ℕ) (e : Refusal) → number_at 65535 (p + length v + 1) rest ≡ Err e → range p (v ++ 45 ∷ rest) ≡ Err e
  second_none rest e none = first_each (45 ∷ rest) refl ∙ ap (λ r. after r (between p (record { value = low; width = length v }))) none

  pub two_reversed : (w : List ℕ) (high : ℕ) → Numeral 65535 w high → high < low → (rest : List ℕ) → Ends digit rest
      → range p (v ++ 45 ∷ (w ++ rest)) ≡ Err (record { cause = ReversedRange; place = p })
  two_reversed w high second h rest ends =
      first_each (45 ∷ (w ++ rest)) refl
      ∙ ap (λ r. after r (between p (record { value = low; width = length v }))) (number_each 65535 (p + length v + 1) w rest high second ends)
      ∙ cond-false _ _ _ (lt-leb low high h)

-- a number does not go on with values
pub values_end : (form : Form) (v : List ℕ) (low high : ℕ) (rest : List ℕ) → Values form v low high → Ends (goes_on form) rest → Ends digit (v ++ rest)
values_end dot v low high rest is ends = absurd is
values_end kind_alone v low high rest is ends = subst (λ l. Ends digit (l ++ rest)) (sym is.0) (ends_parts 58 rest ends).0
values_end one_value v low high rest is ends = subst (λ l. Ends digit (l ++ rest)) (sym is.1) refl
values_end two_values v low high rest is ends = subst (λ l. Ends digit (l ++ rest)) (sym is.2) refl

pub values_each : (p : ℕ) (form : Form) (v : List ℕ) (low high : ℕ) (rest : List ℕ) → Values form v low high → Ends (goes_on form) rest
    → values p (v ++ rest) ≡ Ok (record { low = low; high = high; width = length v })
values_each p dot v low high rest is ends = absurd is
values_each p kind_alone v low high rest is ends =
    ap (λ l. values p (l ++ rest)) is.0 ∙ cond-false _ _ _ (ends_parts 58 rest ends).1 ∙ same_span _ _ _ _ _ _ (sym is.1) (sym is.2) (sym (ap length is.0))
values_each p one_value v low high rest is ends =
    ap (λ l. values p (l ++ rest)) is.1 ∙ ap (λ r. after r colon) (one_each (p + 1) is.0 low is.2 rest ends)
    ∙ same_span _ _ _ _ _ _ refl (sym is.3) (omega (arith, ap length is.1))
values_each p two_values v low high rest is ends =
    ap (λ l. values p (l ++ rest)) is.2 ∙ ap (λ r. after r colon) (two_each (p + 1) is.0 low is.3 is.1 high is.4 is.5 rest ends)
    ∙ same_span _ _ _ _ _ _ refl refl (omega (arith, ap length is.2, length-append is.0 (45 ∷ is.1)))
