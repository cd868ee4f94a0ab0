-- Ascending rows of cuts, how many of them are at or below a code, and which they are.
use Rattle.std.specs.Prelude.{◌≡◌, ℕ, zero, suc, ◌+◌, ◌-◌, ◌*◌, ◌<◌, ◌≤◌, cond, ◌&&◌, leb, ◌⊎◌, List, [], ◌∷◌, length, ◌==◌, ◌≢◌, nat_le, nat_lt, slice_index, slice_index_or, refl}
use Rattle.std.proofs.Common.{sym, ap, ◌∙◌, inl, inr, ⊎_elim, arith, zero-add, one-add}
use Rattle.std.specs.List.{AllByRecursion, insert}
use Rattle.symbols.specs.declared.EventTest.{EventTest}
use Rattle.std.proofs.lemmas.List.Sums.{sum_by-cons, count_by-le-length}
use Rattle.std.proofs.ByRecursion.{All-weaker, All-get_or}
use Rattle.std.proofs.lemmas.Bool.{cases_order, cases_lt, cases_eq, le-leb, lt-leb, lt-ltb, le-ltb, eq-eqb, ne_eqb, cond-true, cond-false, and_from, and_left, and_right}
use Rattle.event_classes.specs.Cuts.{placed, cut, cut_by, at_or_below, Ascending, Among, Bounds, Cut, lowest_code}

count_yes : (code y : ℕ) (ys : List ℕ) → y ≤ code → at_or_below code (y ∷ ys) ≡ 1 + at_or_below code ys
count_yes code y ys l = sum_by-cons (λ x. cond (nat_le x code) 1 0) y ys ∙ ap (λ n. n + at_or_below code ys) (cond-true (nat_le y code) 1 0 (le-leb y code l))

count_no : (code y : ℕ) (ys : List ℕ) → code < y → at_or_below code (y ∷ ys) ≡ at_or_below code ys
count_no code y ys l = sum_by-cons (λ x. cond (nat_le x code) 1 0) y ys ∙ ap (λ n. n + at_or_below code ys) (cond-false (nat_le y code) 1 0 (lt-leb y code l)) ∙ zero-add (at_or_below code ys)

count_none : (code : ℕ) (ys : List ℕ) → AllByRecursion (λ y. code < y) ys → at_or_below code ys ≡ 0
count_none code [] h = refl
count_none code (y ∷ ys) h = count_no code y ys h.0 ∙ count_none code ys h.1

pub count_le : (code : ℕ) (cs : List ℕ) → at_or_below code cs ≤ length cs
count_le code cs = count_by-le-length (λ x. leb x code) cs

-- those at or below the code come first
pub count_below : (code : ℕ) (cs : List ℕ) → Ascending cs → (i : ℕ) → i < at_or_below code cs → slice_index cs i ≤ code
count_below code [] h i l = absurd (omega arith)
count_below code (y ∷ ys) h zero l =
    ⊎_elim (λ (u : code < y). absurd (omega (arith, count_no code y ys u, count_none code ys (All-weaker (λ z. y < z) (λ z. code < z) (λ z v. omega arith) ys h.0)))) (λ (u : y ≤ code). u) (cases_lt code y)
count_below code (y ∷ ys) h (suc i) l =
    ⊎_elim (λ (u : code < y). absurd (omega (arith, count_no code y ys u, count_none code ys (All-weaker (λ z. y < z) (λ z. code < z) (λ z v. omega arith) ys h.0))))
    (λ (u : y ≤ code). count_below code ys h.1 i (omega (arith, count_yes code y ys u)))
    (cases_lt code y)

all_at : (y : ℕ) (ys : List ℕ) → AllByRecursion (λ z. y < z) ys → (i : ℕ) → i < length ys → y < slice_index ys i
all_at y ys h i l = All-get_or (λ z. y < z) ys i 0 l h

pub count_above : (code : ℕ) (cs : List ℕ) → Ascending cs → (i : ℕ) → at_or_below code cs ≤ i → i < length cs → code < slice_index cs i
count_above code [] h i l u = absurd (omega arith)
count_above code (y ∷ ys) h zero l u = ⊎_elim (λ (v : code < y). v) (λ (v : y ≤ code). absurd (omega (arith, count_yes code y ys v))) (cases_lt code y)
count_above code (y ∷ ys) h (suc i) l u =
    ⊎_elim (λ (v : code < y). omega (arith, all_at y ys h.0 i (omega arith)))
    (λ (v : y ≤ code). count_above code ys h.1 i (omega (arith, count_yes code y ys v)) (omega arith))
    (cases_lt code y)

-- more codes, more cuts below
pub count_mono : (a b : ℕ) (cs : List ℕ) → Ascending cs → a ≤ b → at_or_below a cs ≤ at_or_below b cs
count_mono a b cs h l =
    ⊎_elim (λ (u : at_or_below b cs < at_or_below a cs). absurd (omega (arith, count_above b cs h (at_or_below b cs) (omega arith) (omega (arith, count_le a cs)), count_below a cs h (at_or_below b cs) u)))
    (λ (u : at_or_below a cs ≤ at_or_below b cs). u)
    (cases_lt (at_or_below b cs) (at_or_below a cs))

pub ascending_at : (cs : List ℕ) → Ascending cs → (i j : ℕ) → i < j → j < length cs → slice_index cs i < slice_index cs j
ascending_at [] h i j l u = absurd (omega arith)
ascending_at (y ∷ ys) h i zero l u = absurd (omega arith)
ascending_at (y ∷ ys) h zero (suc j) l u = all_at y ys h.0 j (omega arith)
ascending_at (y ∷ ys) h (suc i) (suc j) l u = ascending_at ys h.1 i j (omega arith) (omega arith)

pub among_at : (x : ℕ) (cs : List ℕ) → Among x cs → (i : ℕ) × (i < length cs) × (slice_index cs i ≡ x)
among_at x [] h = absurd h
among_at x (y ∷ ys) (inl e) = (0, omega arith, sym e)
among_at x (y ∷ ys) (inr h) = let w = among_at x ys h in (suc w.0, omega (arith, w.1), w.2)

pub lowest_zero : (cs : List ℕ) (n : ℕ) → n ≡ 0 → lowest_code cs n ≡ 0
lowest_zero cs n e = cond-true (n == 0) 0 (slice_index cs (n - 1)) (eq-eqb n 0 e)

pub lowest_cut : (cs : List ℕ) (n : ℕ) → (n ≢ 0) → lowest_code cs n ≡ slice_index cs (n - 1)
lowest_cut cs n d = cond-false (n == 0) 0 (slice_index cs (n - 1)) (ne_eqb n 0 d)

-- the lowest code of a code's class is at or below it, with no cut between them
pub lowest_low : (code : ℕ) (cs : List ℕ) → Ascending cs → lowest_code cs (at_or_below code cs) ≤ code
lowest_low code cs h =
    ⊎_elim (λ (e : at_or_below code cs ≡ 0). rw (lowest_zero cs (at_or_below code cs) e) (omega arith))
    (λ (d : at_or_below code cs ≡ 0 → ⊥). rw (lowest_cut cs (at_or_below code cs) d) (count_below code cs h (at_or_below code cs - 1) (omega arith)))
    (cases_eq (at_or_below code cs) 0)

among_counted : (code x : ℕ) (cs : List ℕ) → Ascending cs → x ≤ code → (i : ℕ) → i < length cs → slice_index cs i ≡ x → i < at_or_below code cs
among_counted code x cs h l i u e = ⊎_elim (λ (v : i < at_or_below code cs). v) (λ (v : at_or_below code cs ≤ i). absurd (omega (arith, count_above code cs h i v u))) (cases_lt i (at_or_below code cs))

pub at_most : (cs : List ℕ) → Ascending cs → (i j : ℕ) → i ≤ j → j < length cs → slice_index cs i ≤ slice_index cs j
at_most cs h i j l u = ⊎_elim (λ (e : i ≡ j). rw e (omega arith)) (λ (d : i ≡ j → ⊥). omega (arith, ascending_at cs h i j (omega arith) u)) (cases_eq i j)

pub lowest_cuts : (code x : ℕ) (cs : List ℕ) → Ascending cs → Among x cs → x ≤ code → x ≤ lowest_code cs (at_or_below code cs)
lowest_cuts code x cs h m l =
    let w = among_at x cs m in
    let c : w.0 < at_or_below code cs = among_counted code x cs h l w.0 w.1 w.2 in
    let d : lowest_code cs (at_or_below code cs) ≡ slice_index_or cs (at_or_below code cs - 1) 0 = lowest_cut cs (at_or_below code cs) (λ e. omega arith) in
    rw d (omega (arith, at_most cs h w.0 (at_or_below code cs - 1) (omega arith) (omega (arith, count_le code cs)), w.2))

-- x put into its place, by how it stands to the first
placed_less : (x y : ℕ) (ys : List ℕ) → x < y → placed x (y ∷ ys) ≡ x ∷ y ∷ ys
placed_less x y ys l = cond-true (nat_lt x y) (x ∷ y ∷ ys) (cond (x == y) (y ∷ ys) (y ∷ placed x ys)) (lt-ltb x y l)

placed_same : (x y : ℕ) (ys : List ℕ) → x ≡ y → placed x (y ∷ ys) ≡ y ∷ ys
placed_same x y ys e =
    cond-false (nat_lt x y) (x ∷ y ∷ ys) (cond (x == y) (y ∷ ys) (y ∷ placed x ys)) (le-ltb x y (omega arith)) ∙ cond-true (x == y) (y ∷ ys) (y ∷ placed x ys) (eq-eqb x y e)

placed_more : (x y : ℕ) (ys : List ℕ) → y < x → placed x (y ∷ ys) ≡ y ∷ placed x ys
placed_more x y ys l =
    cond-false (nat_lt x y) (x ∷ y ∷ ys) (cond (x == y) (y ∷ ys) (y ∷ placed x ys)) (le-ltb x y (omega arith)) ∙ cond-false (x == y) (y ∷ ys) (y ∷ placed x ys) (ne_eqb x y (λ e. omega arith))

placed_all : (z x : ℕ) (cs : List ℕ) → z < x → AllByRecursion (λ y. z < y) cs → AllByRecursion (λ y. z < y) (placed x cs)
placed_all z x [] l h = (l, tt)
placed_all z x (y ∷ ys) l h =
    ⊎_elim (λ (e : x ≡ y). rw (placed_same x y ys e) h)
    (⊎_elim (λ (u : x < y). rw (placed_less x y ys u) (l, h)) (λ (u : y < x). rw (placed_more x y ys u) (h.0, placed_all z x ys l h.1)))
    (cases_order x y)

pub placed_ascending : (x : ℕ) (cs : List ℕ) → Ascending cs → Ascending (placed x cs)
placed_ascending x [] h = (tt, tt)
placed_ascending x (y ∷ ys) h =
    ⊎_elim (λ (e : x ≡ y). rw (placed_same x y ys e) h)
    (⊎_elim (λ (u : x < y). rw (placed_less x y ys u) ((u, All-weaker (λ z. y < z) (λ z. x < z) (λ z v. omega arith) ys h.0), h))
    (λ (u : y < x). rw (placed_more x y ys u) (placed_all y x ys u h.0, placed_ascending x ys h.1)))
    (cases_order x y)

pub placed_length : (x : ℕ) (cs : List ℕ) → length (placed x cs) ≤ length cs + 1
placed_length x [] = omega arith
placed_length x (y ∷ ys) =
    ⊎_elim (λ (e : x ≡ y). rw (placed_same x y ys e) (omega arith))
    (⊎_elim (λ (u : x < y). rw (placed_less x y ys u) (omega arith)) (λ (u : y < x). rw (placed_more x y ys u) (omega (arith, placed_length x ys))))
    (cases_order x y)

placed_has : (x : ℕ) (cs : List ℕ) → Among x (placed x cs)
placed_has x [] = inl refl
placed_has x (y ∷ ys) =
    ⊎_elim (λ (e : x ≡ y). rw (placed_same x y ys e) (inl e)) (⊎_elim (λ (u : x < y). rw (placed_less x y ys u) (inl refl)) (λ (u : y < x). rw (placed_more x y ys u) (inr (placed_has x ys)))) (cases_order x y)

placed_keeps : (z x : ℕ) (cs : List ℕ) → Among z cs → Among z (placed x cs)
placed_keeps z x [] h = absurd h
placed_keeps z x (y ∷ ys) h =
    ⊎_elim (λ (e : x ≡ y). rw (placed_same x y ys e) h)
    (⊎_elim (λ (u : x < y). rw (placed_less x y ys u) (inr h))
    (λ (u : y < x). rw (placed_more x y ys u) (⊎_elim (λ (e : z ≡ y). inl e) (λ (m : Among z ys). inr (placed_keeps z x ys m)) h)))
    (cases_order x y)

placed_only : (z x : ℕ) (cs : List ℕ) → Among z (placed x cs) → (z ≡ x) ⊎ Among z cs
placed_only z x [] h = h
placed_only z x (y ∷ ys) h =
    ⊎_elim (λ (e : x ≡ y). let k : Among z (y ∷ ys) = rw (placed_same x y ys e) at h in inr k)
    (⊎_elim (λ (u : x < y). let k : Among z (x ∷ y ∷ ys) = rw (placed_less x y ys u) at h in k)
    (λ (u : y < x).
    let k : Among z (y ∷ placed x ys) = rw (placed_more x y ys u) at h in
    ⊎_elim (λ (e : z ≡ y). inr (inl e)) (λ (m : Among z (placed x ys)). ⊎_elim (λ (e : z ≡ x). inl e) (λ (n : Among z ys). inr (inr n)) (placed_only z x ys m)) k))
    (cases_order x y)

-- what one cut says of the number of cuts at or below a code
pub rank_above : (code : ℕ) (cs : List ℕ) → Ascending cs → (i : ℕ) → i < length cs → slice_index cs i ≤ code → i < at_or_below code cs
rank_above code cs h i u l = among_counted code (slice_index cs i) cs h l i u refl

pub rank_below : (code : ℕ) (cs : List ℕ) → Ascending cs → (i : ℕ) → code < slice_index cs i → at_or_below code cs ≤ i
rank_below code cs h i l = ⊎_elim (λ (v : i < at_or_below code cs). absurd (omega (arith, count_below code cs h i v))) (λ v. v) (cases_lt i (at_or_below code cs))

-- a cut that is there stays, and one that is new comes behind those at or below it
all_among : (y x : ℕ) (ys : List ℕ) → AllByRecursion (λ z. y < z) ys → Among x ys → y < x
all_among y x [] h m = absurd m
all_among y x (z ∷ ys) h m = ⊎_elim (λ (e : x ≡ z). omega (arith, h.0)) (λ (n : Among x ys). all_among y x ys h.1 n) m

pub placed_old : (x : ℕ) (cs : List ℕ) → Ascending cs → Among x cs → placed x cs ≡ cs
placed_old x [] h m = absurd m
placed_old x (y ∷ ys) h m =
    ⊎_elim (λ (e : x ≡ y). placed_same x y ys e)
    (⊎_elim (λ (u : x < y). absurd (⊎_elim (λ (e : x ≡ y). omega arith) (λ (n : Among x ys). omega (arith, all_among y x ys h.0 n)) m))
    (λ (u : y < x). placed_more x y ys u ∙ ap (λ zs. y ∷ zs) (placed_old x ys h.1 (⊎_elim (λ (e : x ≡ y). absurd (omega arith)) (λ n. n) m))))
    (cases_order x y)

pub placed_new : (x : ℕ) (cs : List ℕ) → Ascending cs → (Among x cs → ⊥) → placed x cs ≡ insert cs (at_or_below x cs) x
placed_new x [] h m = refl
placed_new x (y ∷ ys) h m =
    ⊎_elim (λ (e : x ≡ y). absurd (m (inl e)))
    (⊎_elim (λ (u : x < y). placed_less x y ys u ∙ sym (ap (λ n. insert (y ∷ ys) n x) (count_no x y ys u ∙ count_none x ys (All-weaker (λ z. y < z) (λ z. x < z) (λ z v. omega arith) ys h.0))))
    (λ (u : y < x). placed_more x y ys u ∙ ap (λ zs. y ∷ zs) (placed_new x ys h.1 (λ n. m (inr n))) ∙ sym (ap (λ n. insert (y ∷ ys) n x) (count_yes x y ys (omega arith) ∙ one-add (at_or_below x ys)))))
    (cases_order x y)

-- where the last cut at or below x is not x, x is none of them
pub among_last : (x : ℕ) (cs : List ℕ) → Ascending cs → Among x cs → (0 < at_or_below x cs) × (slice_index cs (at_or_below x cs - 1) ≡ x)
among_last x cs h m =
    let w = among_at x cs m in
    let c : w.0 < at_or_below x cs = among_counted x x cs h (omega arith) w.0 w.1 w.2 in
    let low = count_below x cs h (at_or_below x cs - 1) (omega arith) in
    let most = at_most cs h w.0 (at_or_below x cs - 1) (omega arith) (omega (arith, count_le x cs)) in
    (omega arith, omega (arith, low, most, w.2))

pub at_among : (cs : List ℕ) (i x : ℕ) → i < length cs → slice_index cs i ≡ x → Among x cs
at_among [] i x l e = absurd (omega arith)
at_among (y ∷ ys) zero x l e = inl (sym e)
at_among (y ∷ ys) (suc i) x l e = inr (at_among ys i x (omega arith) e)

-- one cut more
abbrev Inside : ℕ → Type 0
Inside x = (0 < x) × (x < 16777216)

pub cut_in : (x : ℕ) (cs : List ℕ) → 0 < x → x < 16777216 → cut x cs ≡ placed x cs
cut_in x cs l u = cond-true (nat_lt 0 x && nat_lt x 16777216) (placed x cs) cs (and_from (nat_lt 0 x) (nat_lt x 16777216) (lt-ltb 0 x l) (lt-ltb x 16777216 u))

pub cut_out : (x : ℕ) (cs : List ℕ) → (x ≡ 0) ⊎ (16777216 ≤ x) → cut x cs ≡ cs
cut_out x cs (inl e) = cond-false (nat_lt 0 x && nat_lt x 16777216) (placed x cs) cs (and_left (nat_lt 0 x) (nat_lt x 16777216) (le-ltb 0 x (omega arith)))
cut_out x cs (inr l) = cond-false (nat_lt 0 x && nat_lt x 16777216) (placed x cs) cs (and_right (nat_lt 0 x) (nat_lt x 16777216) (le-ltb x 16777216 l))

cases_inside : (x : ℕ) → Inside x ⊎ ((x ≡ 0) ⊎ (16777216 ≤ x))
cases_inside x =
    ⊎_elim (λ (e : x ≡ 0). inr (inl e)) (λ (d : x ≡ 0 → ⊥). ⊎_elim (λ (l : x < 16777216). inl (omega arith, l)) (λ (l : 16777216 ≤ x). inr (inr l)) (cases_lt x 16777216)) (cases_eq x 0)

pub cut_ascending : (x : ℕ) (cs : List ℕ) → Ascending cs → Ascending (cut x cs)
cut_ascending x cs h = ⊎_elim (λ (w : Inside x). rw (cut_in x cs w.0 w.1) (placed_ascending x cs h)) (λ w. rw (cut_out x cs w) h) (cases_inside x)

pub cut_length : (x : ℕ) (cs : List ℕ) → length (cut x cs) ≤ length cs + 1
cut_length x cs = ⊎_elim (λ (w : Inside x). rw (cut_in x cs w.0 w.1) (placed_length x cs)) (λ w. rw (cut_out x cs w) (omega arith)) (cases_inside x)

cut_keeps : (z x : ℕ) (cs : List ℕ) → Among z cs → Among z (cut x cs)
cut_keeps z x cs h = ⊎_elim (λ (w : Inside x). rw (cut_in x cs w.0 w.1) (placed_keeps z x cs h)) (λ w. rw (cut_out x cs w) h) (cases_inside x)

cut_only : (z x : ℕ) (cs : List ℕ) → Among z (cut x cs) → ((z ≡ x) × Inside x) ⊎ Among z cs
cut_only z x cs h =
    ⊎_elim (λ (w : Inside x). let k : Among z (placed x cs) = rw (cut_in x cs w.0 w.1) at h in ⊎_elim (λ (e : z ≡ x). inl (e, w)) (λ (m : Among z cs). inr m) (placed_only z x cs k))
    (λ w. let k : Among z cs = rw (cut_out x cs w) at h in inr k)
    (cases_inside x)

cut_has : (x : ℕ) (cs : List ℕ) → 0 < x → x < 16777216 → Among x (cut x cs)
cut_has x cs l u = rw (cut_in x cs l u) (placed_has x cs)

-- the cuts of tests
pub by_ascending : (ts : List EventTest) (cs : List ℕ) → Ascending cs → Ascending (cut_by ts cs)
by_ascending [] cs h = h
by_ascending (t ∷ ts) cs h = by_ascending ts (cut (t.high + 1) (cut t.low cs)) (cut_ascending (t.high + 1) (cut t.low cs) (cut_ascending t.low cs h))

pub by_length : (ts : List EventTest) (cs : List ℕ) → length (cut_by ts cs) ≤ length cs + 2 * length ts
by_length [] cs = omega arith
by_length (t ∷ ts) cs =
    omega (arith, by_length ts (cut (t.high + 1) (cut t.low cs)), cut_length (t.high + 1) (cut t.low cs), cut_length t.low cs)

by_keeps : (z : ℕ) (ts : List EventTest) (cs : List ℕ) → Among z cs → Among z (cut_by ts cs)
by_keeps z [] cs h = h
by_keeps z (t ∷ ts) cs h = by_keeps z ts (cut (t.high + 1) (cut t.low cs)) (cut_keeps z (t.high + 1) (cut t.low cs) (cut_keeps z t.low cs h))

by_has : (x : ℕ) (ts : List EventTest) (cs : List ℕ) → 0 < x → x < 16777216 → Bounds ts x → Among x (cut_by ts cs)
by_has x [] cs l u b = absurd b
by_has x (t ∷ ts) cs l u (inr b) = by_has x ts (cut (t.high + 1) (cut t.low cs)) l u b
by_has x (t ∷ ts) cs l u (inl (inl e)) =
    by_keeps x ts (cut (t.high + 1) (cut t.low cs)) (cut_keeps x (t.high + 1) (cut t.low cs) (rw e (cut_has x cs l u)))
by_has x (t ∷ ts) cs l u (inl (inr e)) = by_keeps x ts (cut (t.high + 1) (cut t.low cs)) (rw e (cut_has x (cut t.low cs) l u))

by_only : (x : ℕ) (ts : List EventTest) (cs : List ℕ) → Among x (cut_by ts cs) → Among x cs ⊎ (Inside x × Bounds ts x)
by_only x [] cs h = inl h
by_only x (t ∷ ts) cs h =
    ⊎_elim
    (λ (m : Among x (cut (t.high + 1) (cut t.low cs))).
    ⊎_elim (λ (w : (x ≡ t.high + 1) × Inside (t.high + 1)). inr ((omega (arith, w), omega (arith, w)), inl (inr (sym w.0))))
    (λ (n : Among x (cut t.low cs)).
    ⊎_elim (λ (w : (x ≡ t.low) × Inside t.low). inr ((omega (arith, w), omega (arith, w)), inl (inl (sym w.0)))) (λ (k : Among x cs). inl k) (cut_only x t.low cs n))
    (cut_only x (t.high + 1) (cut t.low cs) m))
    (λ (w : Inside x × Bounds ts x). inr (w.0, inr w.1))
    (by_only x ts (cut (t.high + 1) (cut t.low cs)) h)

pub cut_law : (ts : List EventTest) → Cut ts
cut_law ts =
    record {
      ascending = by_ascending ts [] tt;
      every = λ x l u b. by_has x ts [] l u b;
      only = λ x h. ⊎_elim (λ (m : ⊥). absurd m) (λ (w : Inside x × Bounds ts x). (w.0.0, w.0.1, w.1)) (by_only x ts [] h);
    }
