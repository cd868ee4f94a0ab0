use Rattle.std.proofs.Common.{◌≡◌, ℕ, ◌+◌, ◌*◌, ◌<◌, ◌≤◌, Bool, true, false, cond, ◌&&◌, ◌||◌, eqb, ltb, List, length, get_or, set, Some, None, Option, sym, refl, ap, ◌∙◌, subst, inl, inr, ⊎_elim, arith, get_or-set_other, get_or-set_same, below_more as at_more}
use mathlib.Core.Path.{fun_ext}
use Rattle.std.proofs.lemmas.Bool.{cases_eq, cases_lt, lt-ltb, le-ltb, eq-eqb, ne_eqb, ltb-true, and_parts, or_left}
use Rattle.std.proofs.Math.Bool.{and-false, or-true}
use Rattle.sets.specs.Members.{none, plus}
use Rattle.memory.specs.Steps.{Map, without, unless}
use Rattle.memory.proofs.Drops.{without_lacks, without_gone, without_stays}
use Rattle.memory.proofs.Sizes.{size_put, size_le}
use Rattle.dense_shelf.specs.Rows.{dense, target, behind}
use Rattle.dense_shelf.specs.Sweep.{Swept, Clean}
use Rattle.dense_shelf.specs.Kept.{map_in, Untouched}
use Rattle.dense_shelf.specs.declared.rows.Rows.{Rows}
use Rattle.dense_shelf.proofs.Cells.{same_key, dense_other, dense_here, dense_is, cell_low, behind_set}

pub swept_none : (n : ℕ) (m : ℕ → Bool) (f : Map) → Swept n m f f 0
swept_none n m f = record { same = refl; count = omega arith; fewer = λ q d. inl refl }

pub swept_more : (n : ℕ) (m : ℕ → Bool) (f g h : Map) (a b : ℕ) → Swept n m f g a → Swept n m g h b → Swept n m f h (a + b)
swept_more n m f g h a b s t = record {
  same = t.same ∙ s.same;
  count = omega (arith, s.count, t.count);
  fewer = λ q d. ⊎_elim (λ (e : h q d ≡ g q d). ⊎_elim (λ (k : g q d ≡ f q d). inl (e ∙ k)) (λ (k : g q d ≡ None). inr (e ∙ k)) (s.fewer q d)) (λ (e : h q d ≡ None). inr e) (t.fewer q d);
}

pub swept_few : (n : ℕ) (m : ℕ → Bool) (f g : Map) (a : ℕ) → n ≤ 64 → Swept n m f g a → a ≤ 16384
swept_few n m f g a h s = omega (arith, s.count, size_le n f)

-- one step less
step_less : (n : ℕ) (m : ℕ → Bool) (f g : Map) (p c t : ℕ) → p < n → c < 256 → f p c ≡ Some t → (m p || m t) ≡ true → g p c ≡ None → ((q d : ℕ) → (q ≡ p → d ≡ c → ⊥) → g q d ≡ f q d) → Swept n m f g 1
step_less n m f g p c t hp hc was mine now other = record {
  same =
      fun_ext
      (λ q. fun_ext
      (λ d.
      ⊎_elim
      (λ (e : (q ≡ p) × (d ≡ c)).
      subst (λ (q : ℕ). without g m q d ≡ without f m q d) (sym e.0)
      (subst (λ (d : ℕ). without g m p d ≡ without f m p d) (sym e.1)
      (without_lacks g m p c now ∙ sym (without_gone f m p c t was mine))))
      (λ (ne : q ≡ p → d ≡ c → ⊥). ap (λ x. cond (m q) None (unless m x)) (other q d ne))
      (same_key q d p c)));
  count = omega (arith, size_put n g f p c t hp hc now was other);
  fewer = λ q d.
      ⊎_elim
      (λ (e : (q ≡ p) × (d ≡ c)). inr (subst (λ (q : ℕ). g q d ≡ None) (sym e.0) (subst (λ (d : ℕ). g p d ≡ None) (sym e.1) now)))
      (λ (ne : q ≡ p → d ≡ c → ⊥). inl (other q d ne))
      (same_key q d p c);
}

-- one byte cleared
pub swept_cell : (bs : List ℕ) (n w : ℕ) (m : ℕ → Bool) (p c t : ℕ) → p < n → c < w → w ≤ 256 → n ≤ 64 → w * n ≤ length bs → get_or bs (c * n + p) 0 ≡ t → t < n → (m p || m t) ≡ true → Swept n m (dense bs n w) (dense (set bs (c * n + p) 255) n w) 1
swept_cell bs n w m p c t hp hc hw hn len e ht mine =
    let l : c * n + p < length bs = omega (arith, cell_low n w c p hc hp) in
    let z : n ≤ 255 = omega arith in
    step_less n m (dense bs n w) (dense (set bs (c * n + p) 255) n w) p c t hp (omega arith)
    (dense_is bs n w p c hp hc ∙ ap (target n) e ∙ ap (λ x. cond x (Some t) None) (lt-ltb t n ht))
    mine
    (dense_here bs n w p c 255 hp hc l ∙ ap (λ x. cond x (Some 255) None) (le-ltb 255 n z))
    (λ q d ne. dense_other bs n w p c 255 q d hp ne)

none_above : (bs : List ℕ) (n w p d : ℕ) → w ≤ d → dense bs n w p d ≡ None
none_above bs n w p d l = rw (le-ltb d w l) (and_none (ltb p n) (target n (get_or bs (d * n + p) 0)))
  where
    and_none : (b : Bool) (o : Option ℕ) → ◌≡◌ {A = Option ℕ} (cond (b && false) o None) None
    and_none true o = refl
    and_none false o = refl

-- the turns of the loops
pub carry : (P : List ℕ → ℕ → Type 0) (bs bs' : List ℕ) (a a' : ℕ) → bs' ≡ bs → a' ≡ a → P bs a → P bs' a'
carry P bs bs' a a' e f x = subst (λ (y : List ℕ). P y a') (sym e) (subst (λ (b : ℕ). P bs b) (sym f) x)

-- what is clean stays so
pub clean_none : (m : ℕ → Bool) (f : Map) (q d : ℕ) → f q d ≡ None → Clean m f q d
clean_none m f q d e = e ∙ sym (without_lacks f m q d e)

clean_fewer : (n : ℕ) (m : ℕ → Bool) (f g : Map) (a q d : ℕ) → Swept n m f g a → Clean m f q d → Clean m g q d
clean_fewer n m f g a q d s k =
    ⊎_elim
    (λ (e : g q d ≡ f q d). e ∙ k ∙ ap (λ x. cond (m q) None (unless m x)) (sym e))
    (λ (e : g q d ≡ None). clean_none m g q d e)
    (s.fewer q d)

pub clean_cell : (bs : List ℕ) (n w : ℕ) (m : ℕ → Bool) (p c : ℕ) → p < n → c < w → (ltb (get_or bs (c * n + p) 0) n && (m p || m (get_or bs (c * n + p) 0))) ≡ false → Clean m (dense bs n w) p c
clean_cell bs n w m p c hp hc e = by (get_or bs (c * n + p) 0) refl
  where
    by : (b : ℕ) → get_or bs (c * n + p) 0 ≡ b → Clean m (dense bs n w) p c
    by b is =
        let say : dense bs n w p c ≡ target n b = dense_is bs n w p c hp hc ∙ ap (target n) is in
        let no : (ltb b n && (m p || m b)) ≡ false = ap (λ x. ltb x n && (m p || m x)) (sym is) ∙ e in
        ⊎_elim
        (λ (h : b < n).
        let some : dense bs n w p c ≡ Some b = say ∙ ap (λ x. cond x (Some b) None) (lt-ltb b n h) in
        some ∙ sym (without_stays (dense bs n w) m p c b some (sym (ap (λ x. x && (m p || m b)) (lt-ltb b n h)) ∙ no)))
        (λ (h : n ≤ b). clean_none m (dense bs n w) p c (say ∙ ap (λ x. cond x (Some b) None) (le-ltb b n h)))
        (cases_lt b n)

-- a turn of a row's loop
abbrev pub RowInv : List ℕ → ℕ → ℕ → (ℕ → Bool) → ℕ → ℕ → List ℕ → ℕ → Type 0
RowInv old n w m c p bs gone = Swept n m (dense old n w) (dense bs n w) gone × ((q : ℕ) → q < p → Clean m (dense bs n w) q c) × (behind n bs ≡ behind n old)

pub row_then : (old bs : List ℕ) (n w : ℕ) (m : ℕ → Bool) (c p gone : ℕ) → RowInv old n w m c p bs gone → c < w → p < n → w ≤ 256 → n ≤ 64 → w * n ≤ length bs → (ltb (get_or bs (c * n + p) 0) n && (m p || m (get_or bs (c * n + p) 0))) ≡ true → RowInv old n w m c (p + 1) (set bs (c * n + p) 255) (gone + 1)
row_then old bs n w m c p gone inv hc hp hw hn len e =
    let k = and_parts (ltb (get_or bs (c * n + p) 0) n) (m p || m (get_or bs (c * n + p) 0)) e in
    let l : c * n + p < length bs = omega (arith, cell_low n w c p hc hp) in
    let z : n ≤ 255 = omega arith in
    let one : Swept n m (dense bs n w) (dense (set bs (c * n + p) 255) n w) 1 =
    swept_cell bs n w m p c (get_or bs (c * n + p) 0) hp hc hw hn len refl (ltb-true (get_or bs (c * n + p) 0) n k.0) k.1
    in (
      swept_more n m (dense old n w) (dense bs n w) (dense (set bs (c * n + p) 255) n w) gone 1 inv.0 one,
      at_more (λ q. Clean m (dense (set bs (c * n + p) 255) n w) q c) p
          (λ q h. clean_fewer n m (dense bs n w) (dense (set bs (c * n + p) 255) n w) 1 q c one (inv.1 q h))
          (clean_none m (dense (set bs (c * n + p) 255) n w) p c (dense_here bs n w p c 255 hp hc l ∙ ap (λ x. cond x (Some 255) None) (le-ltb 255 n z))),
      behind_set bs n w (c * n + p) 255 (cell_low n w c p hc hp) hw ∙ inv.2,
    )

pub row_else : (old bs : List ℕ) (n w : ℕ) (m : ℕ → Bool) (c p gone : ℕ) → RowInv old n w m c p bs gone → c < w → p < n → (ltb (get_or bs (c * n + p) 0) n && (m p || m (get_or bs (c * n + p) 0))) ≡ false → RowInv old n w m c (p + 1) bs gone
row_else old bs n w m c p gone inv hc hp e =
    (inv.0, at_more (λ q. Clean m (dense bs n w) q c) p inv.1 (clean_cell bs n w m p c hp hc e), inv.2)

pub clean_row : (bs : List ℕ) (n w : ℕ) (m : ℕ → Bool) (c : ℕ) → ((q : ℕ) → q < n → Clean m (dense bs n w) q c) → (q : ℕ) → Clean m (dense bs n w) q c
clean_row bs n w m c h q = ⊎_elim (λ (l : q < n). h q l) (λ (l : n ≤ q). clean_none m (dense bs n w) q c (rw (le-ltb q n l))) (cases_lt q n)

-- a turn of the loop over the rows
pub record RowsSwept (n : ℕ) (m : ℕ → Bool) (f g : Map) (c gone : ℕ) : Type 0 where
  pub swept : Swept n m f g gone
  pub clean : (d : ℕ) → d < c → (q : ℕ) → Clean m g q d

pub rows_none : (n : ℕ) (m : ℕ → Bool) (f : Map) → RowsSwept n m f f 0 0
rows_none n m f = record { swept = swept_none n m f; clean = λ d (h : d < 0). absurd (omega arith) }

pub rows_more : (n : ℕ) (m : ℕ → Bool) (f g h : Map) (c gone a : ℕ) → RowsSwept n m f g c gone → Swept n m g h a → ((q : ℕ) → Clean m h q c) → RowsSwept n m f h (c + 1) (gone + a)
rows_more n m f g h c gone a inv s row = record {
  swept = swept_more n m f g h gone a inv.swept s;
  clean = at_more (λ d. (q : ℕ) → Clean m h q d) c (λ d l q. clean_fewer n m g h a q d s (inv.clean d l q)) row;
}

pub all_clean : (r : Rows) (n : ℕ) (m : ℕ → Bool) (f : Map) (c gone : ℕ) → RowsSwept n m f (map_in r) c gone → r.used.classes ≤ c → map_in r ≡ without f m
all_clean r n m f c gone inv h =
    fun_ext
    (λ q. fun_ext
    (λ d.
    ⊎_elim
    (λ (l : d < r.used.classes). inv.clean d (omega arith) q)
    (λ (l : r.used.classes ≤ d). clean_none m (map_in r) q d (none_above r.bytes.now r.places r.used.classes q d l))
    (cases_lt d r.used.classes)))
    ∙ inv.swept.same

-- what two calls leave of the bytes, one after the other
pub untouched_more : (a b c : Rows) → Untouched a b → Untouched b c → Untouched a c
untouched_more a b c x y = record {
  lender = y.lender ∙ x.lender;
  places = y.places ∙ x.places;
  rest = subst (λ (n : ℕ). behind n c.bytes.now ≡ behind n b.bytes.now) x.places y.rest ∙ x.rest;
}

-- one place: a row in which the step from it is gone already
only_else : (n p q b : ℕ) → (b ≡ p → ⊥) → (q ≡ p → n ≤ b) → (ltb b n && (plus 64 none p q || plus 64 none p b)) ≡ false
only_else n p q b nb nq =
    ⊎_elim
    (λ (e : q ≡ p). rw (le-ltb b n (nq e)))
    (λ (e : q ≡ p → ⊥). rw (ne_eqb q p e, ne_eqb b p nb, and-false (ltb p 64)) (and-false (ltb b n)))
    (cases_eq q p)

only_then : (n p q b : ℕ) → p < n → n ≤ 64 → b ≡ p → (ltb b n && (plus 64 none p q || plus 64 none p b)) ≡ true
only_then n p q b hp hn e =
    let hb : b < n = omega arith in
    let h64 : p < 64 = omega arith in
    rw (lt-ltb b n hb, lt-ltb p 64 h64, eq-eqb b p e) (or-true (eqb q p || false))

abbrev pub OneInv : List ℕ → ℕ → ℕ → ℕ → ℕ → ℕ → List ℕ → ℕ → Type 0
OneInv old n w p c q bs gone = RowInv old n w (plus 64 none p) c q bs gone × (n ≤ get_or bs (c * n + p) 0) × (gone ≤ q)

still_gone : (bs : List ℕ) (n i j : ℕ) → i < length bs → n ≤ 255 → n ≤ get_or bs j 0 → n ≤ get_or (set bs i 255) j 0
still_gone bs n i j l h k =
    ⊎_elim
    (λ (e : j ≡ i). subst (λ (x : ℕ). n ≤ get_or (set bs i 255) x 0) (sym e) (subst (λ (x : ℕ). n ≤ x) (sym (get_or-set_same bs i 255 0 l)) h))
    (λ (e : j ≡ i → ⊥). subst (λ (x : ℕ). n ≤ x) (sym (get_or-set_other bs i j 255 0 e)) k)
    (cases_eq j i)

pub one_then : (old bs : List ℕ) (n w p c q gone : ℕ) → OneInv old n w p c q bs gone → c < w → q < n → p < n → w ≤ 256 → n ≤ 64 → w * n ≤ length bs → get_or bs (c * n + q) 0 ≡ p → OneInv old n w p c (q + 1) (set bs (c * n + q) 255) (gone + 1)
one_then old bs n w p c q gone inv hc hq hp hw hn len e =
    let l : c * n + q < length bs = omega (arith, cell_low n w c q hc hq) in (
      row_then old bs n w (plus 64 none p) c q gone inv.0 hc hq hw hn len (only_then n p q (get_or bs (c * n + q) 0) hp hn e),
      still_gone bs n (c * n + q) (c * n + p) l (omega arith) inv.1,
      omega (arith, inv.2),
    )

pub one_else : (old bs : List ℕ) (n w p c q gone : ℕ) → OneInv old n w p c q bs gone → c < w → q < n → (get_or bs (c * n + q) 0 ≡ p → ⊥) → OneInv old n w p c (q + 1) bs gone
one_else old bs n w p c q gone inv hc hq e = (
  row_else old bs n w (plus 64 none p) c q gone inv.0 hc hq
      (only_else n p q (get_or bs (c * n + q) 0) e (λ (s : q ≡ p). subst (λ (x : ℕ). n ≤ get_or bs (c * n + x) 0) (sym s) inv.1)),
  inv.1,
  omega (arith, inv.2),
)

pub from_gone : (bs : List ℕ) (n w p c : ℕ) → p < n → c < w → w ≤ 256 → n ≤ 64 → w * n ≤ length bs → get_or bs (c * n + p) 0 < n → Swept n (plus 64 none p) (dense bs n w) (dense (set bs (c * n + p) 255) n w) 1 × (n ≤ get_or (set bs (c * n + p) 255) (c * n + p) 0)
from_gone bs n w p c hp hc hw hn len h =
    let l : c * n + p < length bs = omega (arith, cell_low n w c p hc hp) in (
      swept_cell bs n w (plus 64 none p) p c (get_or bs (c * n + p) 0) hp hc hw hn len refl h
          (or_left (plus 64 none p p) (plus 64 none p (get_or bs (c * n + p) 0)) (let h64 : p < 64 = omega arith in rw (lt-ltb p 64 h64, eq-eqb p p refl))),
      subst (λ (x : ℕ). n ≤ x) (sym (get_or-set_same bs (c * n + p) 255 0 l)) (omega arith),
    )
