-- Bytes have one row of answers exactly when they are alike, and the table is filled byte by byte.
use Rattle.std.proofs.Common.{◌≡◌, ℕ, ◌+◌, ◌*◌, ◌^◌, ◌<◌, ◌≤◌, Bool, true, false, cond, List, [], ◌∷◌, ◌++◌, length, get_or, take, set, fold, sym, refl, ap, ◌∙◌, ⊎_elim, add-one, arith, length-set}
use mathlib.Core.Bool.{beq}
use mir.Val.{bool_byte}
use Rattle.std.proofs.lemmas.Bool.{and_parts, and_from, cases_Bool, eq-eqb, ne_eqb}
use Rattle.std.proofs.lemmas.List.{length_push}
use Rattle.std.proofs.lemmas.List.Sums.{fold_more}
use Rattle.std.proofs.lemmas.Nat.{pow-add}
use Rattle.sets.specs.Positions.{holds, PositionSet}
use Rattle.symbols.specs.declared.ByteTest.{ByteTest}
use Rattle.symbols.specs.Tests.{passes_byte}
use Rattle.byte_classes.specs.Numbering.{how_many, smallest, leads, member}
use Rattle.byte_classes.specs.Classes.{alike, byte_class}
use Rattle.byte_classes.specs.Tables.{row, passed_byte, FirstLike}
use Rattle.alphabet.proofs.Filling.{below_set, below_pushed}
use Rattle.byte_classes.specs.First.{first_is, how_many_zero, how_many_yes, how_many_no}
use Rattle.byte_classes.specs.NumberingLemmas.{smallest_like, class_same, class_leads, member_is}
use Rattle.byte_classes.specs.Bytewise.{alike_equivalence, beq_eq}

-- one more digit
digit_is : (b : Bool) → bool_byte b ≡ cond b 1 0
digit_is true = refl
digit_is false = refl

digit_low : (b : Bool) → bool_byte b ≤ 1
digit_low true = omega arith
digit_low false = omega arith

pub row_more : (ts : List ByteTest) (i b n x : ℕ) (d : ByteTest) → i < length ts → n ≡ row (take i ts) b → n < 2 ^ i → x ≡ bool_byte (passes_byte (get_or ts i d) b) → (n * 2 + x ≡ row (take (i + 1) ts) b) × (n * 2 + x < 2 ^ (i + 1))
row_more ts i b n x d l e u h =
    let f : ℕ → ByteTest → ℕ = λ m t. m * 2 + cond (passes_byte t b) 1 0 in (
      ap (λ m. m * 2 + x) e ∙ ap (λ y. row (take i ts) b * 2 + y) (h ∙ digit_is (passes_byte (get_or ts i d) b)) ∙ sym (fold_more f 0 ts i d l),
      let p : 2 ^ (i + 1) ≡ 2 ^ i * 2 = pow-add 2 i 1 in omega (arith, digit_low (passes_byte (get_or ts i d) b)),
    )

-- rows that agree have been made from like answers
rows_apart : (ts : List ByteTest) (a b m n : ℕ) → fold (λ k t. k * 2 + cond (passes_byte t a) 1 0) m ts ≡ fold (λ k t. k * 2 + cond (passes_byte t b) 1 0) n ts → (m ≡ n) × (alike ts a b ≡ true)
rows_apart [] a b m n e = (e, refl)
rows_apart (t ∷ ts) a b m n e =
    let w = rows_apart ts a b (m * 2 + cond (passes_byte t a) 1 0) (n * 2 + cond (passes_byte t b) 1 0) e in
    let v = digits_apart (passes_byte t a) (passes_byte t b) m n w.0 in
    (v.0, and_from (beq (passes_byte t a) (passes_byte t b)) (alike ts a b) v.1 w.1)
  where
    digits_apart : (x y : Bool) (m n : ℕ) → m * 2 + cond x 1 0 ≡ n * 2 + cond y 1 0 → (m ≡ n) × (beq x y ≡ true)
    digits_apart true true m n e = (omega arith, refl)
    digits_apart false false m n e = (omega arith, refl)
    digits_apart true false m n e = absurd (omega arith)
    digits_apart false true m n e = absurd (omega arith)

rows_same : (ts : List ByteTest) (a b n : ℕ) → alike ts a b ≡ true → fold (λ k t. k * 2 + cond (passes_byte t a) 1 0) n ts ≡ fold (λ k t. k * 2 + cond (passes_byte t b) 1 0) n ts
rows_same [] a b n h = refl
rows_same (t ∷ ts) a b n h =
    let w = and_parts (beq (passes_byte t a) (passes_byte t b)) (alike ts a b) h in
    ap (λ x. fold (λ k u. k * 2 + cond (passes_byte u a) 1 0) (n * 2 + cond x 1 0) ts) (beq_eq (passes_byte t a) (passes_byte t b) w.0) ∙ rows_same ts a b (n * 2 + cond (passes_byte t b) 1 0) w.1

unlike : (ts : List ByteTest) (a b : ℕ) → (row ts a ≡ row ts b → ⊥) → alike ts b a ≡ false
unlike ts a b h = ⊎_elim (λ (e : alike ts b a ≡ true). absurd (h (sym (rows_same ts b a 0 e)))) (λ e. e) (cases_Bool (alike ts b a))

-- the first byte with the row of b is the smallest byte like b
pub smallest_is : (ts : List ByteTest) (rows : List ℕ) (b r : ℕ) → ((x : ℕ) → x < 256 → get_or rows x 0 ≡ row ts x) → b < 256 → FirstLike rows b r → smallest (alike ts) b ≡ r
smallest_is ts rows b r h l k =
    first_is (alike ts b) b 0 r
    (record {
      low = omega arith;
      high = omega (arith, k.low);
      none = λ x _ u. unlike ts x b (λ e. k.first x u (h x (omega (arith, k.low)) ∙ e ∙ sym (h b l)));
      has = λ _. (rows_apart ts b r 0 0 (sym (h b l) ∙ sym k.like ∙ h r (omega (arith, k.low)))).1;
    })

-- the table after the bytes below b
pub record Filled (ts : List ByteTest) (b : ℕ) (class : List ℕ) (passing : List PositionSet) : Type 0 where
  pub long : length class ≡ 256
  pub few : length passing ≤ b
  pub leaders : length passing ≡ how_many (leads (alike ts)) b
  pub classed : (x : ℕ) → x < b → get_or class x 0 ≡ byte_class ts x
  pub told : (c : ℕ) (d : PositionSet) → c < length passing → holds (get_or passing c d) ≡ passed_byte ts (member (alike ts) 256 c)

pub filled_none : (ts : List ByteTest) (class : List ℕ) → length class ≡ 256 → Filled ts 0 class []
filled_none ts class l = record { long = l; few = omega arith; leaders = sym (how_many_zero _); classed = λ x u. absurd (omega arith); told = λ c d u. absurd (omega arith) }

pub filled_at : (ts : List ByteTest) (b : ℕ) (class class' : List ℕ) (passing passing' : List PositionSet) → class' ≡ class → passing' ≡ passing → Filled ts b class passing → Filled ts b class' passing'
filled_at ts b class class' passing passing' e f h = rw (e, f) h

-- a byte that leads begins a class
pub filled_new : (ts : List ByteTest) (b : ℕ) (s : PositionSet) (class class' : List ℕ) (passing passing' : List PositionSet) → b < 256 → smallest (alike ts) b ≡ b → holds s ≡ passed_byte ts b → Filled ts b class passing → class' ≡ set class b (length passing) → passing' ≡ passing ++ s ∷ [] → Filled ts (b + 1) class' passing'
filled_new ts b s class class' passing passing' l e g h i j =
    let leads_b : leads (alike ts) b ≡ true = eq-eqb (smallest (alike ts) b) b e in
    let n : length passing' ≡ length passing + 1 = ap length j ∙ length_push passing s in
    rw i (record {
      long = length-set class b (length passing) ∙ h.long;
      few = omega (arith, h.few);
      leaders = n ∙ ap (λ k. k + 1) h.leaders ∙ sym (ap (how_many (leads (alike ts))) (add-one b) ∙ how_many_yes (leads (alike ts)) b leads_b);
      classed = below_set (byte_class ts) class b (length passing) (omega (arith, h.long)) h.classed (h.leaders ∙ sym (class_leads (alike ts) b leads_b));
      told = λ c d u. rw j (below_pushed (λ k x. holds x ≡ passed_byte ts (member (alike ts) 256 k)) passing s d (λ k v. h.told k d v) (g ∙ ap (passed_byte ts) (sym (member_is (alike ts) (alike_equivalence ts) 256 b (length passing) l leads_b (sym h.leaders)))) c (omega (arith, n)));
    })

-- another byte has the class of the smallest byte like it
pub filled_old : (ts : List ByteTest) (b r : ℕ) (class class' : List ℕ) (passing : List PositionSet) → b < 256 → smallest (alike ts) b ≡ r → r < b → Filled ts b class passing → class' ≡ set class b (get_or class r 0) → Filled ts (b + 1) class' passing
filled_old ts b r class class' passing l e u h i =
    let eq = alike_equivalence ts in
    let follows : leads (alike ts) b ≡ false = ne_eqb (smallest (alike ts) b) b (λ same. omega arith) in
    let like : alike ts b r ≡ true = ap (alike ts b) (sym e) ∙ smallest_like (alike ts) eq b in
    rw i (record {
      long = length-set class b (get_or class r 0) ∙ h.long;
      few = omega (arith, h.few);
      leaders = h.leaders ∙ sym (ap (how_many (leads (alike ts))) (add-one b) ∙ how_many_no (leads (alike ts)) b follows);
      classed = below_set (byte_class ts) class b (get_or class r 0) (omega (arith, h.long)) h.classed (h.classed r u ∙ sym (class_same (alike ts) eq b r like));
      told = h.told;
    })
