-- Which bytes pass the sets.
use Rattle.std.proofs.Common.{◌≡◌, ℕ, zero, suc, ◌+◌, ◌-◌, ◌/◌, ◌%◌, ◌^◌, ◌<◌, ◌≤◌, Bool, true, false, ◌&&◌, ◌||◌, eqb, ltb, leb, List, ◌++◌, map, length, get_or, take, drop, set, replicate, sym, refl, ap, ◌∙◌, ⊎_elim, append-nil, arith, length-set}
use native.Mathlib.Nat.{zero-div}
use lib.Bits.{bit_or, bit_xor}
use Rattle.std.proofs.lemmas.List.{get_or-set_same, get_or-set_other, get_or-replicate, get_or_past, get_or-map, length-replicate, take_all, drop_all, get_or_default, set_past, length-append, length-map, length-take, length-drop}
use Rattle.std.proofs.lemmas.List.Edits.{map_over_more}
use Rattle.std.proofs.lemmas.Nat.{mod_below}
use Rattle.std.proofs.lemmas.Bool.{cases_eq, cases_lt, eq-eqb, ne_eqb}
use Rattle.std.proofs.lemmas.Bool.Decides.{nat_tests}
use Rattle.symbols.specs.declared.ByteTest.{ByteTest}
use Rattle.symbols.specs.Tests.{passes_byte}
use Rattle.symbols.specs.ByteSets.{no_byte, with_byte, with_bytes, with_range, others, between, Nothing, Adds, Inverts}
use Rattle.symbols.proofs.Bit.{tst, tst_or, tst_pow, tst_flip}

zero_at : (n i : ℕ) → ◌≡◌ {A = ℕ} (get_or (replicate n 0) i 0) 0
zero_at n i = ⊎_elim (λ (h : i < n). get_or-replicate n i 0 0 h) (λ (h : n ≤ i). let l : length (replicate n 0) ≤ i = omega (arith, length-replicate {A = ℕ} n 0) in get_or_past (replicate n 0) i 0 l) (cases_lt i n)

pub nothing : Nothing no_byte
nothing x = ap (λ v. tst v (x % 8)) (zero_at 32 (x / 8)) ∙ ap (λ v. eqb (v % 2) 1) (zero-div (2 ^ (x % 8)))

swap : (a b : Bool) → (a || b) ≡ (b || a)
swap true true = refl
swap true false = refl
swap false true = refl
swap false false = refl

same_part : (x b : ℕ) → x / 8 ≡ b / 8 → eqb (x % 8) (b % 8) ≡ eqb x b
same_part x b e =
    ⊎_elim
    (λ (h : x ≡ b). eq-eqb (x % 8) (b % 8) (ap (λ n. n % 8) h) ∙ sym (eq-eqb x b h))
    (λ (h : x ≡ b → ⊥). ne_eqb (x % 8) (b % 8) (λ f. h (omega arith)) ∙ sym (ne_eqb x b h))
    (cases_eq x b)

pub with_byte_lem : (t : ByteTest) (b : ℕ) → b / 8 < length t.bits → Adds (λ x. eqb x b) t (with_byte t b)
with_byte_lem t b h x =
    ⊎_elim
    (λ (e : x / 8 ≡ b / 8).
    ap (λ n. tst (get_or (with_byte t b).bits n 0) (x % 8)) e
    ∙ ap (λ v. tst v (x % 8)) (get_or-set_same t.bits (b / 8) (bit_or (get_or t.bits (b / 8) 0) (2 ^ (b % 8))) 0 h)
    ∙ tst_or (get_or t.bits (b / 8) 0) (2 ^ (b % 8)) (x % 8)
    ∙ swap (tst (get_or t.bits (b / 8) 0) (x % 8)) (tst (2 ^ (b % 8)) (x % 8))
    ∙ ap (λ v. v || tst (get_or t.bits (b / 8) 0) (x % 8)) (tst_pow (b % 8) (x % 8) ∙ same_part x b e)
    ∙ ap (λ n. eqb x b || tst (get_or t.bits n 0) (x % 8)) (sym e))
    (λ (d : x / 8 ≡ b / 8 → ⊥).
    ap (λ v. tst v (x % 8)) (get_or-set_other t.bits (b / 8) (x / 8) (bit_or (get_or t.bits (b / 8) 0) (2 ^ (b % 8))) 0 d)
    ∙ ap (λ v. v || passes_byte t x) (sym (ne_eqb x b (λ e. d (ap (λ n. n / 8) e)))))
    (cases_eq (x / 8) (b / 8))

abbrev pub below : ℕ → ℕ → ℕ → Bool
below b n x = leb b x && ltb x (b + n)

pub below_none : (b x : ℕ) (p : Bool) → p ≡ (below b zero x || p)
below_none b x p = grind (arith, nat_tests)

below_more : (b n x : ℕ) (p : Bool) → (below (b + 1) n x || (eqb x b || p)) ≡ (below b (suc n) x || p)
below_more b n x p = grind (arith, nat_tests)

below_between : (low high x : ℕ) → below low (high + 1 - low) x ≡ between low high x
below_between low high x = grind (arith, nat_tests)

-- of bytes the same holds whatever is put in: what is no byte changes nothing
pub byte_added : (t : ByteTest) (b : ℕ) → length t.bits ≡ 32 → (x : ℕ) → x < 256 → passes_byte (with_byte t b) x ≡ (eqb x b || passes_byte t x)
byte_added t b e x h =
    ⊎_elim
    (λ (l : b / 8 < length t.bits). with_byte_lem t b l x)
    (λ (l : length t.bits ≤ b / 8).
    ap (λ bits. passes_byte (record { bits = bits }) x) (set_past t.bits (b / 8) (bit_or (get_or t.bits (b / 8) 0) (2 ^ (b % 8))) l)
    ∙ ap (λ v. v || passes_byte t x) (sym (ne_eqb x b (λ (k : x ≡ b). omega arith))))
    (cases_lt (b / 8) (length t.bits))

bytes_added : (n : ℕ) (t : ByteTest) (b : ℕ) → length t.bits ≡ 32 → (x : ℕ) → x < 256 → passes_byte (with_bytes t b n) x ≡ (below b n x || passes_byte t x)
bytes_added zero t b e x h = below_none b x (passes_byte t x)
bytes_added (suc n) t b e x h =
    bytes_added n (with_byte t b) (b + 1) (length-set t.bits (b / 8) _ ∙ e) x h
    ∙ ap (λ p. below (b + 1) n x || p) (byte_added t b e x h)
    ∙ below_more b n x (passes_byte t x)

pub range_added : (t : ByteTest) (low high : ℕ) → length t.bits ≡ 32 → (x : ℕ) → x < 256 → passes_byte (with_range t low high) x ≡ (between low high x || passes_byte t x)
range_added t low high e x h = bytes_added (high + 1 - low) t low e x h ∙ ap (λ p. p || passes_byte t x) (below_between low high x)

-- a set has 32 parts, whatever is put in
pub length_bytes : (n : ℕ) (t : ByteTest) (b : ℕ) → length (with_bytes t b n).bits ≡ length t.bits
length_bytes zero t b = refl
length_bytes (suc n) t b = length_bytes n (with_byte t b) (b + 1) ∙ length-set t.bits (b / 8) _

pub inverts : (t : ByteTest) → length t.bits ≡ 32 → Inverts t (others t)
inverts t e x h =
    let l : x / 8 < length t.bits = omega arith in
    ap (λ v. tst v (x % 8)) (get_or-map (λ part. bit_xor part 255) t.bits (x / 8) 0 0 l)
    ∙ tst_flip (get_or t.bits (x / 8) 0) (x % 8) (mod_below x 8 (omega arith))

-- one byte of a range after another
pub range_more : (t : ByteTest) (b high : ℕ) → b ≤ high → with_bytes t b (high + 1 - b) ≡ with_bytes (with_byte t b) (b + 1) (high + 1 - (b + 1))
range_more t b high h = let e : high + 1 - b ≡ suc (high + 1 - (b + 1)) = omega arith in ap (with_bytes t b) e

pub range_last : (t : ByteTest) (b high : ℕ) → b ≤ high → high ≤ b → with_bytes t b (high + 1 - b) ≡ with_byte t b
range_last t b high g h = let e : high + 1 - b ≡ suc zero = omega arith in ap (with_bytes t b) e

-- one part after another is turned
pub turn_more : (xs ys : List ℕ) (i : ℕ) → length xs ≡ 32 → i < 32 → ys ≡ map (λ part. bit_xor part 255) (take i xs) ++ drop i xs → set ys i (bit_xor (get_or ys i 0) 255) ≡ map (λ part. bit_xor part 255) (take (i + 1) xs) ++ drop (i + 1) xs
turn_more xs ys i e h k =
    let l : i < length xs = omega arith in
    let n : length ys ≡ length xs = ap length k ∙ simp (length-append, length-map, length-take, length-drop) (omega arith) in
    let m : i < length ys = omega arith in
    map_over_more (λ part. bit_xor part 255) xs ys i (get_or ys i 0) l k (get_or_default ys i 0 (get_or ys i 0) m)

pub turn_all : (xs : List ℕ) (i : ℕ) → length xs ≡ 32 → 32 ≤ i → map (λ part. bit_xor part 255) (take i xs) ++ drop i xs ≡ map (λ part. bit_xor part 255) xs
turn_all xs i e h =
    let l : length xs ≤ i = omega arith in
    rw (take_all i xs l, drop_all i xs l) (append-nil (map (λ part. bit_xor part 255) xs))

-- the law, one byte of a range after another
pub adds_more : (low b x : ℕ) (p : Bool) → low ≤ b → (eqb x b || (below low (b - low) x || p)) ≡ (below low (b + 1 - low) x || p)
adds_more low b x p h = grind (arith, nat_tests)

pub adds_last : (low b high x : ℕ) (p : Bool) → low ≤ b → b ≤ high → high ≤ b → (eqb x b || (below low (b - low) x || p)) ≡ (between low high x || p)
adds_last low b high x p h k l = grind (arith, nat_tests)

pub adds_none : (low high x : ℕ) (p : Bool) → high < low → p ≡ (between low high x || p)
adds_none low high x p h = grind (arith, nat_tests)

pub range_none : (t : ByteTest) (b high : ℕ) → high < b → with_bytes t b (high + 1 - b) ≡ t
range_none t b high h = let e : high + 1 - b ≡ zero = omega arith in ap (with_bytes t b) e
