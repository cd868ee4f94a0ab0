-- In front of each text stands a number or none: the reader accepts the one and refuses the other.
use Rattle.std.proofs.Common.{◌≡◌, ℕ, suc, ◌+◌, ◌-◌, ◌*◌, ◌^◌, ◌<◌, ◌≤◌, true, false, eqb, ltb, leb, List, [], ◌∷◌, ◌++◌, length, Some, None, Ok, Err, Option, sym, refl, ap, ◌∙◌, subst, ⊎_elim, add_assoc, mul_assoc, add-mul, zero-add, zero-mul, arith}
use native.Mathlib.Nat.{pow-succ'}
use Rattle.std.proofs.lemmas.Bool.{cond-true, cond-false, cases_Bool, cases_lt, and_from, and_right, le-leb, lt-leb, lt-ltb, eqb-false, ne_eqb}
use Rattle.refusal.specs.declared.Cause.TheVariants.{BadNumber}
use Rattle.event_notation.specs.declared.number.Number.{Number}
use Rattle.event_notation.specs.Numbers.{digit, digits, bounded, number_at}
use Rattle.event_notation.specs.Atoms.{Digits, decimal, Numeral, Ends}
use Rattle.event_notation.specs.Refusals.{NoNumber, missing, long, large}

one_more : (v d len dec : ℕ) → (v * 10 + d) * 10 ^ len + dec ≡ v * 10 ^ suc len + (d * 10 ^ len + dec)
one_more v d len dec = rw (add-mul (v * 10) d (10 ^ len), mul_assoc v 10 (10 ^ len), pow-succ' 10 len, add_assoc)

same_number : (v w x y : ℕ) → v ≡ x → w ≡ y → ◌≡◌ {A = Option Number} (Some (record { value = v; width = w })) (Some (record { value = x; width = y }))
same_number v w x y e h = λ i. Some (record { value = e i; width = h i })

run_read : (v w : ℕ) (ds rest : List ℕ) → Digits ds → Ends digit rest → w + length ds ≤ 5
    → digits v w (ds ++ rest) ≡ Some (record { value = v * 10 ^ length ds + decimal ds; width = w + length ds })
run_read v w [] [] all ends few = same_number v w (v * 1 + 0) (w + 0) (omega arith) (omega arith)
run_read v w [] (b ∷ rest) all ends few = cond-false _ _ _ ends ∙ same_number v w (v * 1 + 0) (w + 0) (omega arith) (omega arith)
run_read v w (d ∷ ds) rest all ends few =
    let less : w ≡ 5 → ⊥ = λ e. omega arith in
    let fits : w + 1 + length ds ≤ 5 = omega arith in
    cond-true _ _ _ all.0 ∙ cond-false _ _ _ (ne_eqb w 5 less) ∙ run_read (v * 10 + (d - 48)) (w + 1) ds rest all.1 ends fits
    ∙ same_number _ _ _ _ (one_more v (d - 48) (length ds) (decimal ds)) (omega arith)

none_before : (len dec : ℕ) → 0 * 10 ^ len + dec ≡ dec
none_before len dec = rw (zero-mul (10 ^ len), zero-add dec)

pub number_each : (most p : ℕ) (ds rest : List ℕ) (x : ℕ) → Numeral most ds x → Ends digit rest
    → number_at most p (ds ++ rest) ≡ Ok (record { value = x; width = length ds })
number_each most p ds rest x num ends =
    let some : ltb 0 (length ds) ≡ true = lt-ltb 0 (length ds) num.one_or_more in
    let value : 0 * 10 ^ length ds + decimal ds ≡ x = none_before (length ds) (decimal ds) ∙ num.value in
    ap (bounded most p) (run_read 0 0 ds rest num.digits ends (omega arith) ∙ same_number _ _ _ _ value (zero-add (length ds)))
    ∙ cond-true _ _ _ (and_from _ _ some (le-leb x most num.bound))

-- more than five digits
over_five : (v w : ℕ) (ds rest : List ℕ) → Digits ds → w ≤ 5 → 5 < w + length ds → digits v w (ds ++ rest) ≡ None
over_five v w [] rest all few many = absurd (omega arith)
over_five v w (d ∷ ds) rest all few many =
    ⊎_elim
    (λ five. cond-true _ _ _ all.0 ∙ cond-true _ _ _ five)
    (λ less.
    let below : w + 1 ≤ 5 = omega (arith, eqb-false w 5 less) in
    let more : 5 < w + 1 + length ds = omega arith in
    cond-true _ _ _ all.0 ∙ cond-false _ _ _ less ∙ over_five (v * 10 + (d - 48)) (w + 1) ds rest all.1 below more)
    (cases_Bool (eqb w 5))

missed : (most p : ℕ) (bs : List ℕ) → Ends digit bs → number_at most p bs ≡ Err (record { cause = BadNumber; place = p })
missed most p [] ends = refl
missed most p (b ∷ bs) ends = ap (bounded most p) (cond-false _ _ _ ends)

too_long : (most p : ℕ) (ds rest : List ℕ) → Digits ds → 5 < length ds → number_at most p (ds ++ rest) ≡ Err (record { cause = BadNumber; place = p })
too_long most p ds rest all many = ap (bounded most p) (over_five 0 0 ds rest all (omega arith) (omega arith))

too_large : (most p : ℕ) (ds rest : List ℕ) → Digits ds → Ends digit rest → length ds ≤ 5 → most < decimal ds → number_at most p (ds ++ rest) ≡ Err (record { cause = BadNumber; place = p })
too_large most p ds rest all ends few much =
    let value : 0 * 10 ^ length ds + decimal ds ≡ decimal ds = none_before (length ds) (decimal ds) in
    ap (bounded most p) (run_read 0 0 ds rest all ends (omega arith) ∙ same_number _ _ _ _ value (zero-add (length ds)))
    ∙ cond-false _ _ _ (and_right (ltb 0 (length ds)) (leb (decimal ds) most) (lt-leb (decimal ds) most much))

pub number_none : (most p : ℕ) (bs : List ℕ) → NoNumber most bs → number_at most p bs ≡ Err (record { cause = BadNumber; place = p })
number_none most p bs (missing ends) = missed most p bs ends
number_none most p bs (long run behind whole all many) = ap (number_at most p) whole ∙ too_long most p run behind all many
number_none most p bs (large run behind whole all ends much) =
    ap (number_at most p) whole
    ∙ ⊎_elim (λ (many : 5 < length run). too_long most p run behind all many) (λ (few : length run ≤ 5). too_large most p run behind all ends few much) (cases_lt 5 (length run))

-- a number up to `most` in front, or none
pub data Front (most : ℕ) (bs : List ℕ) : Type 0 where
  number : (ds behind : List ℕ) (n : ℕ) → bs ≡ ds ++ behind → Numeral most ds n → Ends digit behind → Front most bs
  none : NoNumber most bs → Front most bs

-- the whole run of digits in front
record Run (bs : List ℕ) : Type 0 where
  run : List ℕ
  behind : List ℕ
  whole : bs ≡ run ++ behind
  all : Digits run
  ends : Ends digit behind

run_of : (bs : List ℕ) → Run bs
run_of [] = record { run = []; behind = []; whole = refl; all = tt; ends = tt }
run_of (b ∷ bs) =
    ⊎_elim
    (λ (is : digit b ≡ true). let r = run_of bs in record { run = b ∷ r.run; behind = r.behind; whole = ap (λ l. b ∷ l) r.whole; all = (is, r.all); ends = r.ends })
    (λ (is_not : digit b ≡ false). record { run = []; behind = b ∷ bs; whole = refl; all = tt; ends = is_not })
    (cases_Bool (digit b))

-- by the run's length and value
front_of : (most : ℕ) (bs run behind : List ℕ) → bs ≡ run ++ behind → Digits run → Ends digit behind → Front most bs
front_of most bs [] behind whole all ends = none (missing (subst (Ends digit) (sym whole) ends))
front_of most bs (d ∷ ds) behind whole all ends =
    ⊎_elim
    (λ (many : 5 < length (d ∷ ds)). none (long (d ∷ ds) behind whole all many))
    (λ (few : length (d ∷ ds) ≤ 5).
    ⊎_elim
    (λ (much : most < decimal (d ∷ ds)). none (large (d ∷ ds) behind whole all ends much))
    (λ (bound : decimal (d ∷ ds) ≤ most).
    number (d ∷ ds) behind (decimal (d ∷ ds)) whole (record { digits = all; one_or_more = omega arith; five_or_less = few; value = refl; bound = bound }) ends)
    (cases_lt most (decimal (d ∷ ds))))
    (cases_lt 5 (length (d ∷ ds)))

pub front : (most : ℕ) (bs : List ℕ) → Front most bs
front most bs = let r = run_of bs in front_of most bs r.run r.behind r.whole r.all r.ends
