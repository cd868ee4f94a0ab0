-- The classes of events: no test tells codes of one class apart.
use Rattle.std.specs.Prelude.{◌≡◌, ℕ, zero, suc, ◌+◌, ◌<◌, ◌≤◌, true, false, cond, not, ◌&&◌, ltb, leb, ◌⊎◌, List, [], ◌∷◌, length, take, ◌==◌, nat_le, nat_lt, refl}
use Rattle.std.proofs.Common.{sym, ap, ◌∙◌, inl, inr, ⊎_elim, arith}
use Rattle.std.proofs.lemmas.Bool.{cases_lt, cases_eq, le-leb, lt-leb, lt-ltb, le-ltb, ltb-true, and_left, and_right, and_parts}
use Rattle.std.proofs.lemmas.List.{length-take}
use Rattle.symbols.specs.declared.Event.{Event}
use Rattle.symbols.specs.declared.EventTest.{EventTest}
use Rattle.symbols.specs.Tests.{passes_code, code_of}
use Rattle.event_classes.specs.Cuts.{cuts, Bounds, lowest_code, event_passes, event_class, event_classes, event_accepts}
use Rattle.alphabet.proofs.Asking.{asked_none}
use Rattle.event_classes.specs.Cutting.{count_le, lowest_low, lowest_cuts, by_length, cut_law}

-- below the lowest code of its class a code and that code meet the same cuts
same_side : (ts : List EventTest) (code x : ℕ) → code < 16777216 → Bounds ts x → nat_le x code ≡ nat_le x (lowest_code (cuts ts) (event_class ts code))
same_side ts code x u b =
    let h = cut_law ts in
    let low = lowest_low code (cuts ts) h.ascending in
    ⊎_elim (λ (l : code < x). lt-leb x code l ∙ sym (lt-leb x (lowest_code (cuts ts) (event_class ts code)) (omega arith)))
    (λ (l : x ≤ code).
    let m : x ≤ lowest_code (cuts ts) (event_class ts code) =
    ⊎_elim (λ (e : x ≡ 0). omega arith) (λ (d : x ≡ 0 → ⊥). lowest_cuts code x (cuts ts) h.ascending (h.every x (omega arith) (omega arith) b) l) (cases_eq x 0) in
    le-leb x code l ∙ sym (le-leb x (lowest_code (cuts ts) (event_class ts code)) m))
    (cases_lt code x)

-- at or below the highest code is not at or above the next
leb_next : (a b : ℕ) → nat_le a b ≡ not (nat_le (b + 1) a)
leb_next a b = ⊎_elim (λ (l : b < a). lt-leb a b l ∙ sym (ap not (le-leb (b + 1) a (omega arith)))) (λ (l : a ≤ b). le-leb a b l ∙ sym (ap not (lt-leb (b + 1) a (omega arith)))) (cases_lt b a)

in_range : (t : EventTest) (a b : ℕ) → nat_le t.low a ≡ nat_le t.low b → nat_le (t.high + 1) a ≡ nat_le (t.high + 1) b → passes_code t a ≡ passes_code t b
in_range t a b e f =
    let g : leb a t.high ≡ leb b t.high = leb_next a t.high ∙ ap not f ∙ sym (leb_next b t.high) in
    ap (λ x. cond t.inverted (not (x && nat_le a t.high)) (x && nat_le a t.high)) e ∙ ap (λ x. cond t.inverted (not (nat_le t.low b && x)) (nat_le t.low b && x)) g

-- tests whose bounds do not part two codes treat them alike
asked_same : (ts : List EventTest) (a b : ℕ) → ((x : ℕ) → Bounds ts x → nat_le x a ≡ nat_le x b) → (k : ℕ) → event_passes ts k a ≡ event_passes ts k b
asked_same [] a b h k = refl
asked_same (t ∷ ts) a b h zero = refl
asked_same (t ∷ ts) a b h (suc k) =
    ap (λ x. cond (k == 0) x (event_passes ts k a)) (in_range t a b (h t.low (inl (inl refl))) (h (t.high + 1) (inl (inr refl)))) ∙
    ap (λ x. cond (k == 0) (passes_code t b) x) (asked_same ts a b (λ x m. h x (inr m)) k)

pub events_within : (ts : List EventTest) (code : ℕ) → event_class ts code < event_classes ts
events_within ts code = omega (arith, count_le code (cuts ts))

pub events_few : (ts : List EventTest) → length ts ≤ 63 → (1 ≤ event_classes ts) × (event_classes ts ≤ 256)
events_few ts l = (omega arith, omega (arith, by_length ts []))

-- the first n of the tests are no more than n
pub few_taken : (n : ℕ) (ts : List EventTest) → n ≤ 63 → length (take n ts) ≤ 63
few_taken n ts few = omega (arith, length-take n ts)

-- kinds of 8 bits and values of 16 bits have codes of 24
pub code_fits : (e : Event) → nat_lt e.kind 256 && nat_lt e.value 65536 ≡ true → code_of e < 16777216
code_fits e h =
    let w = and_parts (nat_lt e.kind 256) (nat_lt e.value 65536) h in
    let kind = ltb-true e.kind 256 w.0 in
    let value = ltb-true e.value 65536 w.1 in
    omega arith

pub events_agree : (ts : List EventTest) (k code : ℕ) → code < 16777216 → event_accepts ts (event_class ts code) k ≡ event_passes ts k code
events_agree ts k code u =
    let w : ltb (event_class ts code) (event_classes ts) ≡ true = lt-ltb (event_class ts code) (event_classes ts) (events_within ts code) in
    ap (λ x. x && event_passes ts k (lowest_code (cuts ts) (event_class ts code))) w ∙
    asked_same ts (lowest_code (cuts ts) (event_class ts code)) code (λ x b. sym (same_side ts code x u b)) k

pub events_untested : (ts : List EventTest) (c k : ℕ) → (k ≡ 0) ⊎ (length ts < k) → event_accepts ts c k ≡ false
events_untested ts c k h = and_right (nat_lt c (event_classes ts)) (event_passes ts k (lowest_code (cuts ts) c)) (asked_none (λ t. passes_code t (lowest_code (cuts ts) c)) ts k h)

pub events_unclassed : (ts : List EventTest) (c k : ℕ) → event_classes ts ≤ c → event_accepts ts c k ≡ false
events_unclassed ts c k l = and_left (nat_lt c (event_classes ts)) (event_passes ts k (lowest_code (cuts ts) c)) (le-ltb c (event_classes ts) l)

pub events_answer : (ts : List EventTest) (c k s : ℕ) → c < event_classes ts → s ≡ lowest_code (cuts ts) c → event_passes ts k s ≡ event_accepts ts c k
events_answer ts c k s l e = ap (event_passes ts k) e ∙ sym (ap (λ x. x && event_passes ts k (lowest_code (cuts ts) c)) (lt-ltb c (event_classes ts) l))
