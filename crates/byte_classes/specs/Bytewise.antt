-- The classes of bytes: what alike means, and the law.
use Rattle.std.specs.Prelude.{◌≡◌, ℕ, zero, suc, ◌<◌, ◌≤◌, Bool, true, false, cond, ◌&&◌, ltb, ◌⊎◌, List, [], ◌∷◌, length, ◌==◌, nat_lt, refl}
use Rattle.std.proofs.Common.{sym, ap, ◌∙◌, ⊎_elim, arith}
use Rattle.std.specs.Bool.{beq}
use Rattle.std.proofs.lemmas.Bool.{cases_eq, and_parts, and_from, and_left, and_right, lt-ltb, le-ltb}
use Rattle.symbols.specs.declared.ByteTest.{ByteTest}
use Rattle.symbols.specs.Tests.{passes_byte}
use Rattle.byte_classes.specs.Numbering.{smallest, leads, member}
use Rattle.byte_classes.specs.Classes.{byte_passes, alike, byte_classes, byte_class, byte_accepts, Classified}
use Rattle.byte_classes.specs.First.{how_many_used, how_many_le}
use Rattle.alphabet.proofs.Asking.{asked_zero, asked_later, asked_none}
use Rattle.byte_classes.specs.NumberingLemmas.{Equivalence, smallest_like, smallest_least, class_same, class_ordered, class_apart, class_within, class_leads, member_like}

beq_same : (x : Bool) → beq x x ≡ true
beq_same true = refl
beq_same false = refl

pub beq_eq : (x y : Bool) → beq x y ≡ true → x ≡ y
beq_eq true true e = refl
beq_eq true false e = sym e
beq_eq false true e = e
beq_eq false false e = refl

-- where every test treats two bytes alike, so does each by its number
alike_asked : (ts : List ByteTest) (a b : ℕ) → alike ts a b ≡ true → (k : ℕ) → byte_passes ts k a ≡ byte_passes ts k b
alike_asked [] a b h k = refl
alike_asked (t ∷ ts) a b h zero = refl
alike_asked (t ∷ ts) a b h (suc k) =
    let w = and_parts (beq (passes_byte t a) (passes_byte t b)) (alike ts a b) h in
    let e = beq_eq (passes_byte t a) (passes_byte t b) w.0 in
    let r = alike_asked ts a b w.1 k in
    ap (λ x. cond (k == 0) x (byte_passes ts k a)) e ∙ ap (λ x. cond (k == 0) (passes_byte t b) x) r

asked_alike : (ts : List ByteTest) (a b : ℕ) → ((k : ℕ) → byte_passes ts k a ≡ byte_passes ts k b) → alike ts a b ≡ true
asked_alike [] a b h = refl
asked_alike (t ∷ ts) a b h =
    and_from (beq (passes_byte t a) (passes_byte t b)) (alike ts a b) (ap (λ x. beq x (passes_byte t b)) (h 1) ∙ beq_same (passes_byte t b))
    (asked_alike ts a b
    (λ k.
    ⊎_elim (λ (e : k ≡ 0). ap (λ i. byte_passes ts i a) e ∙ asked_zero _ ts ∙ sym (asked_zero _ ts) ∙ sym (ap (λ i. byte_passes ts i b) e))
    (λ (d : k ≡ 0 → ⊥). sym (asked_later (λ u. passes_byte u a) t ts k d) ∙ h (suc k) ∙ asked_later (λ u. passes_byte u b) t ts k d)
    (cases_eq k 0)))

pub alike_equivalence : (ts : List ByteTest) → Equivalence (alike ts)
alike_equivalence ts =
    record {
      same = λ a. asked_alike ts a a (λ k. refl);
      back = λ a b h. asked_alike ts b a (λ k. sym (alike_asked ts a b h k));
      on = λ a b c h j. asked_alike ts a c (λ k. alike_asked ts a b h k ∙ alike_asked ts b c j k);
    }

pub classified : (ts : List ByteTest) → Classified ts
classified ts =
    let eq = alike_equivalence ts in
    record {
      together = λ a b _ _ h. class_same (alike ts) eq a b (asked_alike ts a b h);
      apart = λ a b _ _ h. alike_asked ts a b (class_apart (alike ts) eq a b h);
      own = λ b _. sym (class_same (alike ts) eq b (smallest (alike ts) b) (smallest_like (alike ts) eq b));
      least = λ a b _ _ h. smallest_least (alike ts) a b (eq.back a b (class_apart (alike ts) eq a b h));
      ordered = λ a b _ _ l. class_ordered (alike ts) eq a b l;
      within = λ b l. class_within (alike ts) eq 256 b l;
      used = λ c l. let w = how_many_used (leads (alike ts)) 256 c l in (w.0, w.1, class_leads (alike ts) w.0 w.2 ∙ w.3);
    }

-- the alphabet's laws
pub bytes_few : (ts : List ByteTest) → (1 ≤ byte_classes ts) × (byte_classes ts ≤ 256)
bytes_few ts = (omega (arith, class_within (alike ts) (alike_equivalence ts) 256 0 (omega arith)), how_many_le (leads (alike ts)) 256)

pub bytes_agree : (ts : List ByteTest) (k b : ℕ) → b < 256 → byte_accepts ts (byte_class ts b) k ≡ byte_passes ts k b
bytes_agree ts k b l =
    let eq = alike_equivalence ts in
    let w : ltb (byte_class ts b) (byte_classes ts) ≡ true = lt-ltb (byte_class ts b) (byte_classes ts) (class_within (alike ts) eq 256 b l) in
    ap (λ x. x && byte_passes ts k (member (alike ts) 256 (byte_class ts b))) w ∙ alike_asked ts (member (alike ts) 256 (byte_class ts b)) b (member_like (alike ts) eq 256 b l) k

pub bytes_untested : (ts : List ByteTest) (c k : ℕ) → (k ≡ 0) ⊎ (length ts < k) → byte_accepts ts c k ≡ false
bytes_untested ts c k h = and_right (nat_lt c (byte_classes ts)) (byte_passes ts k (member (alike ts) 256 c)) (asked_none (λ t. passes_byte t (member (alike ts) 256 c)) ts k h)

pub bytes_unclassed : (ts : List ByteTest) (c k : ℕ) → byte_classes ts ≤ c → byte_accepts ts c k ≡ false
bytes_unclassed ts c k l = and_left (nat_lt c (byte_classes ts)) (byte_passes ts k (member (alike ts) 256 c)) (le-ltb c (byte_classes ts) l)

-- a class answers as its smallest byte does
pub bytes_answer : (ts : List ByteTest) (c k s : ℕ) → c < byte_classes ts → s ≡ member (alike ts) 256 c → byte_passes ts k s ≡ byte_accepts ts c k
bytes_answer ts c k s l e = ap (byte_passes ts k) e ∙ sym (ap (λ x. x && byte_passes ts k (member (alike ts) 256 c)) (lt-ltb c (byte_classes ts) l))
