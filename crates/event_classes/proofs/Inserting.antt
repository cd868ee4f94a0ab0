-- Cuts put into their places, and the cuts counted.
use Rattle.std.proofs.Common.{◌≡◌, ℕ, ◌+◌, ◌-◌, ◌*◌, ◌^◌, ◌<◌, ◌≤◌, min, leb, List, [], length, get_or, take, drop, Result, Ok, Err, subst, sym, ap, ◌∙◌, ⊎_elim, inr, arith, true, false}
use Rattle.std.specs.List.{insert}
use Rattle.std.specs.List.Sorted.{IsNonDecreasing, IsPartitionPoint, IsBinarySearchResult}
use Rattle.std.specs.Ordering.{nat_cmp}
use Rattle.std.proofs.lemmas.Bool.{cases_lt, lt-leb, le-leb, both_ways}
use Rattle.std.proofs.lemmas.List.{get_or-drop, get_or-take, at_drop_more, at_drop_all, length-take, length-drop}
use Rattle.std.proofs.lemmas.List.Sorted.{IsNonDecreasingBy-from_default, searched}
use Rattle.symbols.specs.declared.EventTest.{EventTest}
use Rattle.event_classes.specs.Cuts.{cut, cut_by, cuts, at_or_below, Ascending}
use Rattle.event_classes.specs.Cutting.{count_le, count_below, count_above, count_mono, placed_old, placed_new, at_among, among_at, at_most, cut_in, cut_out, cut_ascending, by_ascending}
use Rattle.event_classes.specs.declared.table.KindClasses.{KindClasses}
use Rattle.event_classes.specs.Tables.{KindsRight}

pub rising : (cs : List ℕ) → Ascending cs → IsNonDecreasing cs
rising cs h = IsNonDecreasingBy-from_default (λ x. x) cs 0 (λ i j l u. at_most cs h i j l u)

-- a cut that a search found, and one that it found the place of
pub cut_found : (x i : ℕ) (cs : List ℕ) → Ascending cs → 0 < x → x < 16777216 → (i < length cs) × (get_or cs i 0 ≡ x) → cs ≡ cut x cs
cut_found x i cs h l u w = sym (cut_in x cs l u ∙ placed_old x cs h (at_among cs i x w.0 w.1))

pub cut_placed : (x i : ℕ) (cs new : List ℕ) → Ascending cs → 0 < x → x < 16777216 → (i ≤ length cs) × ((k : ℕ) → k < i → get_or cs k 0 < x) × ((k : ℕ) → i ≤ k → k < length cs → x < get_or cs k 0) → new ≡ insert cs i x → new ≡ cut x cs
cut_placed x i cs new h l u w e =
    let r : at_or_below x cs ≤ length cs = count_le x cs in
    let place : i ≡ at_or_below x cs =
    ⊎_elim (λ (v : i < at_or_below x cs). absurd (omega (arith, count_below x cs h i v, w.2 i)))
    (λ (v : at_or_below x cs ≤ i). ⊎_elim (λ (z : at_or_below x cs < i). absurd (omega (arith, count_above x cs h (at_or_below x cs) (omega arith) (omega (arith, w.0)), w.1 (at_or_below x cs) z))) (λ z. omega arith) (cases_lt (at_or_below x cs) i))
    (cases_lt i (at_or_below x cs)) in
    e ∙ ap (λ k. insert cs k x) place
    ∙ sym (cut_in x cs l u ∙ placed_new x cs h
    (λ a. let m = among_at x cs a in ⊎_elim (λ (z : m.0 < i). omega (arith, w.1 m.0 z, m.2)) (λ (z : i ≤ m.0). omega (arith, w.2 m.0 z m.1, m.2)) (cases_lt m.0 i)))

-- the same of what the search says of a list ds that is cs
abbrev Searched : ℕ → List ℕ → Result ℕ ℕ → Type 0
Searched x = IsBinarySearchResult (λ y. nat_cmp y x)

pub cut_searched : (x i : ℕ) (ds cs : List ℕ) (r : Result ℕ ℕ) → Ascending cs → 0 < x → x < 16777216 → ds ≡ cs → r ≡ Ok i → Searched x ds r → cs ≡ cut x cs
cut_searched x i ds cs r h l u e f w =
    cut_found x i cs h l u (searched cs x (Ok i) (subst (λ ys. Searched x ys (Ok i)) e (subst (Searched x ds) f w)) (at_most cs h))

pub cut_inserted : (x i : ℕ) (ds cs new : List ℕ) (r : Result ℕ ℕ) → Ascending cs → 0 < x → x < 16777216 → ds ≡ cs → r ≡ Err i → Searched x ds r → new ≡ insert cs i x → new ≡ cut x cs
cut_inserted x i ds cs new r h l u e f w g =
    cut_placed x i cs new h l u (searched cs x (Err i) (subst (λ ys. Searched x ys (Err i)) e (subst (Searched x ds) f w)) (at_most cs h)) g

-- a code that has no next one cuts nothing off
pub cut_behind : (high code : ℕ) (cs : List ℕ) → code ≡ min (high + 1) (2 ^ 32 - 1) → cut code cs ≡ cut (high + 1) cs
cut_behind high code cs e =
    ⊎_elim (λ (l : high + 1 < 2 ^ 32). let same : code ≡ high + 1 = omega arith in ap (λ x. cut x cs) same) (λ (l : 2 ^ 32 ≤ high + 1). cut_out code cs (inr (omega arith)) ∙ sym (cut_out (high + 1) cs (inr (omega arith)))) (cases_lt (high + 1) (2 ^ 32))

-- the cuts of one more test
pub cut_more : (ts : List EventTest) (i code : ℕ) (d : EventTest) (cs low high whole : List ℕ) → i < length ts → cut_by (drop i ts) cs ≡ whole → low ≡ cut (get_or ts i d).low cs → code ≡ min ((get_or ts i d).high + 1) (2 ^ 32 - 1) → high ≡ cut code low → cut_by (drop (i + 1) ts) high ≡ whole
cut_more ts i code d cs low high whole l h e s f =
    ap (cut_by (drop (i + 1) ts)) (f ∙ cut_behind (get_or ts i d).high code low s ∙ ap (cut ((get_or ts i d).high + 1)) e) ∙ sym (at_drop_more (λ us. cut_by us cs) ts i d l) ∙ h

pub cut_none : (ts : List EventTest) (i : ℕ) (cs whole : List ℕ) → length ts ≤ i → cut_by (drop i ts) cs ≡ whole → cs ≡ whole
cut_none ts i cs whole l h = sym (at_drop_all (λ us. cut_by us cs) ts i l) ∙ h

-- cuts ascend, one by one and all together
pub ascending_low : (ts : List EventTest) (i : ℕ) (d : EventTest) (cs low : List ℕ) → Ascending cs → low ≡ cut (get_or ts i d).low cs → Ascending low
ascending_low ts i d cs low h e = rw e (cut_ascending (get_or ts i d).low cs h)

pub ascending_high : (ts : List EventTest) (i : ℕ) (d : EventTest) (cs high : List ℕ) → Ascending cs → high ≡ cut ((get_or ts i d).high + 1) cs → Ascending high
ascending_high ts i d cs high h e = rw e (cut_ascending ((get_or ts i d).high + 1) cs h)

pub ascending_cuts : (ts : List EventTest) (cs : List ℕ) → cs ≡ cuts ts → Ascending cs
ascending_cuts ts cs e = rw e (by_ascending ts [] tt)

-- the number of cuts at or below a code, counted between two numbers
pub rank_within : (code low n r : ℕ) (ds cs part : List ℕ) → Ascending cs → low ≤ at_or_below code cs → at_or_below code cs ≤ low + n → low + n ≤ length cs → ds ≡ cs → part ≡ take n (drop low ds) → r ≤ n → IsPartitionPoint (λ y. leb y code ≡ true) (λ y. leb y code ≡ false) part r → low + r ≡ at_or_below code cs
rank_within code low n r ds cs part h l u long e f few w =
    let is : part ≡ take n (drop low cs) = f ∙ ap (λ ys. take n (drop low ys)) e in
    let at : (k : ℕ) → k < n → get_or part k 0 ≡ get_or cs (low + k) 0 = λ k v. ap (λ ys. get_or ys k 0) is ∙ get_or-take n (drop low cs) k 0 v ∙ get_or-drop low cs k 0 in
    let size : length part ≡ n = ap length is ∙ length-take n (drop low cs) ∙ omega (arith, length-drop low cs) in
    ⊎_elim
    (λ (v : low + r < at_or_below code cs).
    absurd (both_ways (leb (get_or part r 0) code) (w.1 r 0 (omega arith) (omega arith)) (le-leb (get_or part r 0) code (omega (arith, at r (omega arith), count_below code cs h (low + r) v)))))
    (λ (v : at_or_below code cs ≤ low + r).
    ⊎_elim
    (λ (z : at_or_below code cs < low + r).
    let k : low + (at_or_below code cs - low) ≡ at_or_below code cs = omega arith in
    absurd (both_ways (leb (get_or part (at_or_below code cs - low) 0) code)
    (lt-leb (get_or part (at_or_below code cs - low) 0) code
    (omega (arith, at (at_or_below code cs - low) (omega arith), ap (λ j. get_or cs j 0) k, count_above code cs h (at_or_below code cs) (omega arith) (omega arith))))
    (w.0 (at_or_below code cs - low) 0 (omega arith) (omega arith))))
    (λ z. omega arith)
    (cases_lt (at_or_below code cs) (low + r)))
    (cases_lt (low + r) (at_or_below code cs))

-- the class of an event lies between those of its kind's lowest and highest code
pub kind_between : (ts : List EventTest) (cs : List ℕ) (kinds : List KindClasses) (d : KindClasses) (code kind value : ℕ) → cs ≡ cuts ts → KindsRight (cuts ts) kinds → code ≡ kind * 65536 + value → kind < 256 → value < 65536 → ((get_or kinds kind d).lowest ≤ at_or_below code cs) × (at_or_below code cs ≤ (get_or kinds kind d).highest) × ((get_or kinds kind d).highest ≤ length cs)
kind_between ts cs kinds d code kind value c right e k l =
    let h = by_ascending ts [] tt in
    let w = right kind d k in
    let a = count_mono (kind * 65536 + 0) code (cuts ts) h (omega arith) in
    let b = count_mono code (kind * 65536 + 65535) (cuts ts) h (omega arith) in
    rw c (omega (arith, w.0), omega (arith, w.1), omega (arith, w.1, count_le (kind * 65536 + 65535) (cuts ts)))
