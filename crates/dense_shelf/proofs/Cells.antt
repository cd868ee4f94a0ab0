use Rattle.std.proofs.Common.{◌≡◌, ℕ, ◌+◌, ◌-◌, ◌*◌, ◌/◌, ◌%◌, ◌<◌, ◌≤◌, cond, ◌&&◌, ltb, ◌≢◌, ◌⊎◌, List, length, ◌++◌, take, drop, get_or, set, None, sym, refl, ap, ◌∙◌, subst, inl, inr, ⊎_elim, mul-le-mul_left, arith, get_or-set_other, get_or-set_same, drop-set-lt, rules}
use mathlib.Core.Path.{fun_ext}
use borrow.Rule.Slice.PartMut.{put_mid, post_of}
use Rattle.std.proofs.lemmas.List.{get_or-append_right, get_or_append_left, set-append_right, set-append_left, length-take-le, get_or-take, take-append-drop, places}
use Rattle.std.proofs.lemmas.Slice.{drop-put_mid}
use Rattle.std.proofs.lemmas.Bool.{cases_eq, cases_lt, eq-eqb, lt-ltb, le-ltb}
use Rattle.std.proofs.lemmas.Nat.{div-mul-add, mod-mul-add, mul-add-lt}
use Rattle.std.proofs.Math.Bool.{and-false}
use Rattle.memory.specs.Steps.{noted, nothing}
use Rattle.memory.proofs.Sizes.{noted_other}
use Rattle.dense_shelf.specs.Rows.{dense, target, wider, behind}

-- a byte's place gives its row and its column
one_place : (n q d p c : ℕ) → q < n → p < n → d * n + q ≡ c * n + p → (q ≡ p) × (d ≡ c)
one_place n q d p c hq hp e = (
  sym (mod-mul-add d n q hq) ∙ ap (λ x. x % n) e ∙ mod-mul-add c n p hp,
  sym (div-mul-add d n q hq) ∙ ap (λ x. x / n) e ∙ div-mul-add c n p hp,
)

pub same_key : (q d p c : ℕ) → ((q ≡ p) × (d ≡ c)) ⊎ (q ≡ p → d ≡ c → ⊥)
same_key q d p c =
    ⊎_elim
    (λ (a : q ≡ p). ⊎_elim (λ (b : d ≡ c). inl (a, b)) (λ (b : d ≡ c → ⊥). inr (λ _. b)) (cases_eq d c))
    (λ (a : q ≡ p → ⊥). inr (λ e. absurd (a e)))
    (cases_eq q p)

pub cell_low : (n w c p : ℕ) → c < w → p < n → c * n + p < w * n
cell_low n w c p hc hp = omega (arith, mul-add-lt c n p w hc hp)

pub cells_fit : (n w k : ℕ) → w ≤ 256 → n * 256 ≤ k → w * n ≤ k
cells_fit n w k hw h = let l : n * w ≤ n * 256 = mul-le-mul_left n hw in omega arith

-- a write in a row in use leaves the bytes behind the rows
pub behind_set : (bs : List ℕ) (n w i x : ℕ) → i < w * n → w ≤ 256 → behind n (set bs i x) ≡ behind n bs
behind_set bs n w i x hi hw = let l : n * w ≤ n * 256 = mul-le-mul_left n hw in drop-set-lt (256 * n) bs i x (omega arith)

-- the map after a write at one place is as before at every other
pub dense_other : (bs : List ℕ) (n w p c x q d : ℕ) → p < n → (q ≡ p → d ≡ c → ⊥) → dense (set bs (c * n + p) x) n w q d ≡ dense bs n w q d
dense_other bs n w p c x q d hp ne =
    ⊎_elim
    (λ (l : q < n).
    let apart : (d * n + q) ≢ (c * n + p) = λ (e : d * n + q ≡ c * n + p). ne (one_place n q d p c l hp e).0 (one_place n q d p c l hp e).1 in
    ap (λ y. cond (ltb q n && ltb d w) (target n y) None) (get_or-set_other bs (c * n + p) (d * n + q) x 0 apart))
    (λ (l : n ≤ q). rw (le-ltb q n l))
    (cases_lt q n)

pub dense_is : (bs : List ℕ) (n w p c : ℕ) → p < n → c < w → dense bs n w p c ≡ target n (get_or bs (c * n + p) 0)
dense_is bs n w p c hp hc = rw (lt-ltb p n hp, lt-ltb c w hc)

pub dense_here : (bs : List ℕ) (n w p c x : ℕ) → p < n → c < w → c * n + p < length bs → dense (set bs (c * n + p) x) n w p c ≡ target n x
dense_here bs n w p c x hp hc hb = rw (lt-ltb p n hp, lt-ltb c w hc, get_or-set_same)

pub dense_set : (bs : List ℕ) (n w p c t : ℕ) → p < n → c < w → t < n → c * n + p < length bs → dense (set bs (c * n + p) t) n w ≡ noted (dense bs n w) p c t
dense_set bs n w p c t hp hc ht hb =
    fun_ext
    (λ q. fun_ext
    (λ d.
    ⊎_elim
    (λ (e : (q ≡ p) × (d ≡ c)).
    subst (λ (q : ℕ). dense (set bs (c * n + p) t) n w q d ≡ noted (dense bs n w) p c t q d) (sym e.0)
    (subst (λ (d : ℕ). dense (set bs (c * n + p) t) n w p d ≡ noted (dense bs n w) p c t p d) (sym e.1)
    (dense_here bs n w p c t hp hc hb ∙ (rw (lt-ltb t n ht, eq-eqb p p refl, eq-eqb c c refl)))))
    (λ (ne : q ≡ p → d ≡ c → ⊥). dense_other bs n w p c t q d hp ne ∙ noted_other (dense bs n w) p c t q d ne)
    (same_key q d p c)))

-- more rows, without a step in them
pub dense_wide : (bs bs' : List ℕ) (n w v : ℕ) → w ≤ v → n ≤ 64 → ((j : ℕ) → j < w * n → get_or bs' j 0 ≡ get_or bs j 0) → ((j : ℕ) → w * n ≤ j → j < v * n → get_or bs' j 0 ≡ 255) → dense bs' n v ≡ dense bs n w
dense_wide bs bs' n w v hv hn same new =
    fun_ext
    (λ q. fun_ext
    (λ d.
    ⊎_elim
    (λ (a : q < n).
    ⊎_elim
    (λ (b : d < w).
    let b' : d < v = omega arith in
    rw (lt-ltb q n a, lt-ltb d w b, lt-ltb d v b') (ap (target n) (same (d * n + q) (cell_low n w d q b a))))
    (λ (b : w ≤ d).
    ⊎_elim
    (λ (b' : d < v).
    let l : n * w ≤ n * d = mul-le-mul_left n b in
    let e : get_or bs' (d * n + q) 0 ≡ 255 = new (d * n + q) (omega arith) (cell_low n v d q b' a) in
    let h : n ≤ 255 = omega arith in
    rw (lt-ltb q n a, le-ltb d w b, lt-ltb d v b', e, le-ltb 255 n h))
    (λ (b' : v ≤ d). rw (lt-ltb q n a, le-ltb d w b, le-ltb d v b'))
    (cases_lt d v))
    (cases_lt d w))
    (λ (a : n ≤ q). rw (le-ltb q n a))
    (cases_lt q n)))

pub dense_empty : (bs : List ℕ) (n : ℕ) → dense bs n 0 ≡ nothing
dense_empty bs n =
    fun_ext
    (λ q. fun_ext
    (λ d.
    let h : 0 ≤ d = omega arith in
    ap (λ x. cond x (target n (get_or bs (d * n + q) 0)) None) (ap (λ x. ltb q n && x) (le-ltb d 0 h) ∙ and-false (ltb q n))))

-- the bytes once those from a on are the row
abbrev pub with_row : List ℕ → ℕ → ℕ → List ℕ → List ℕ
with_row bs a e row = put_mid a (e - a) bs row

pub row_get : (bs : List ℕ) (a e : ℕ) (row : List ℕ) (k : ℕ) → a ≤ length bs → k < length row → get_or (with_row bs a e row) (a + k) 0 ≡ get_or row k 0
row_get bs a e row k ha hk =
    let i : a + k - a ≡ k = omega arith in
    get_or-append_right (take a bs) (row ++ post_of a (e - a) bs) a (a + k) 0 (length-take-le a bs ha) (omega arith)
    ∙ ap (λ j. get_or (row ++ post_of a (e - a) bs) j 0) i
    ∙ get_or_append_left row (post_of a (e - a) bs) 0 k hk

pub row_set : (bs : List ℕ) (a e : ℕ) (row : List ℕ) (k x : ℕ) → a ≤ length bs → k < length row → with_row bs a e (set row k x) ≡ set (with_row bs a e row) (a + k) x
row_set bs a e row k x ha hk =
    let i : a + k - a ≡ k = omega arith in
    sym
    (set-append_right (take a bs) (row ++ post_of a (e - a) bs) a (a + k) x (length-take-le a bs ha) (omega arith)
    ∙ ap (λ j. take a bs ++ set (row ++ post_of a (e - a) bs) j x) i
    ∙ ap (λ ys. take a bs ++ ys) (set-append_left row (post_of a (e - a) bs) k x hk))

row_below : (bs : List ℕ) (a e : ℕ) (row : List ℕ) (j : ℕ) → a ≤ length bs → j < a → get_or (with_row bs a e row) j 0 ≡ get_or bs j 0
row_below bs a e row j ha hj =
    let l : length (take a bs) ≡ a = length-take-le a bs ha in
    get_or_append_left (take a bs) (row ++ post_of a (e - a) bs) 0 j (omega arith) ∙ get_or-take a bs j 0 hj

pub length-row : (bs : List ℕ) (a e : ℕ) (row : List ℕ) → a ≤ e → e ≤ length bs → length row ≡ e - a → length (with_row bs a e row) ≡ length bs
length-row bs a e row ha he hr = search (rules, places)

pub row_same : (bs : List ℕ) (a e : ℕ) → a ≤ e → e ≤ length bs → with_row bs a e (take (e - a) (drop a bs)) ≡ bs
row_same bs a e ha he = ap (λ ys. take a bs ++ ys) (take-append-drop (e - a) (drop a bs)) ∙ take-append-drop a bs

-- the row of a class lies within the bytes
pub row_fits : (n w c k : ℕ) → c < w → w ≤ 256 → n * 256 ≤ k → c * n + n ≤ k
row_fits n w c k hc hw h = let l : n * (c + 1) ≤ n * 256 = mul-le-mul_left n (omega arith) in omega arith

-- rows that were filled with what is no step
pub filled_wide : (bs : List ℕ) (n w v : ℕ) (row : List ℕ) → w ≤ v → v ≤ 256 → n ≤ 64 → n * 256 ≤ length bs → length row ≡ v * n - w * n → ((k : ℕ) → k < length row → get_or row k 0 ≡ 255) → dense (with_row bs (w * n) (v * n) row) n v ≡ dense bs n w
filled_wide bs n w v row hv low hn fit len all =
    let a : w * n ≤ length bs = cells_fit n w (length bs) (omega arith) fit in
    dense_wide bs (with_row bs (w * n) (v * n) row) n w v hv hn
    (λ j h. row_below bs (w * n) (v * n) row j a h)
    (λ j (h : w * n ≤ j) (l : j < v * n).
    let k : w * n + (j - w * n) ≡ j = omega arith in
    let in_row : j - w * n < length row = omega arith in
    ap (λ i. get_or (with_row bs (w * n) (v * n) row) i 0) (sym k) ∙ row_get bs (w * n) (v * n) row (j - w * n) a in_row ∙ all (j - w * n) in_row)

pub filled_behind : (bs : List ℕ) (n w v : ℕ) (row : List ℕ) → w ≤ v → v ≤ 256 → n * 256 ≤ length bs → length row ≡ v * n - w * n → behind n (with_row bs (w * n) (v * n) row) ≡ behind n bs
filled_behind bs n w v row hv low fit len =
    let a : n * w ≤ n * v = mul-le-mul_left n hv in
    let b : n * v ≤ n * 256 = mul-le-mul_left n low in
    drop-put_mid (w * n) (v * n - w * n) bs row (256 * n) (omega arith) (omega arith) len

pub wider_low : (w c : ℕ) → c < wider w c
wider_low w c = ⊎_elim (λ (h : c < w). rw (lt-ltb c w h) h) (λ (h : w ≤ c). rw (le-ltb c w h) (omega arith)) (cases_lt c w)
