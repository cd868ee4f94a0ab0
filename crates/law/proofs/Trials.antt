-- How every searcher counts ab* in "abb".
use Rattle.std.proofs.Common.{◌≡◌, ℕ, zero, suc, ◌<◌, ◌≤◌, Bool, true, false, cond, eqb, ltb, List, [], ◌∷◌, Some, sym, refl, ap, ◌∙◌, subst, arith}
use Rattle.std.proofs.lemmas.Bool.{lt-ltb, ltb-true, eqb-true, ne_eqb}
use Rattle.theory.specs.Masks.{those, some}
use Rattle.law.specs.Subject.{Proper}
use Rattle.law.specs.Memory.{Memory, allowance, with_limit, opened, Sound}
use Rattle.law.specs.Reading.{Counts, Walk}
use Rattle.law.specs.Calls.{Query, Request, Search, Limit, Found, Answer, Searched, Dropped, Refused, findings, reads, Limited, within, beyond, Answered, refused, searched, limited, cleared}
use Rattle.law.specs.Met.{number_of_sets, number_of_steps}
use Rattle.law.specs.Law.{counts, finds, outcome, define}
use Rattle.law.specs.Trials.{byte_at, class_from, ab, abb, counted, Always}
use Rattle.law.proofs.Maps.{some_not}
use Rattle.law.proofs.Calling.{sound_empty, calling, search_same, limit_search, clear_search, clear_limit}
use Rattle.law.proofs.Exact.{Carry, carry_opened}
use Rattle.law.proofs.Laws.{carry_limit, every}
use Rattle.law.proofs.Alone.{walk_alone, alone_walk}
use Rattle.law.proofs.Alphabets.{from_masks}

-- the class 1 is that of a, 2 that of b
accepts : ℕ → ℕ → Bool
accepts class zero = false
accepts class (suc zero) = eqb class 1
accepts class (suc (suc zero)) = eqb class 2
accepts class (suc (suc (suc p))) = false

abbrev class : Bool → Bool → ℕ
class x y = cond x 1 (cond y 2 0)

class_low : (x y : Bool) → class x y < 256
class_low true y = omega arith
class_low false true = omega arith
class_low false false = omega arith

class_one : (x y : Bool) → eqb (class x y) 1 ≡ x
class_one true y = refl
class_one false true = refl
class_one false false = refl

class_two : (x y : Bool) → (x ≡ true → y ≡ false) → eqb (class x y) 2 ≡ y
class_two true y apart = sym (apart refl)
class_two false true apart = refl
class_two false false apart = refl

agrees : (test b : ℕ) → ltb b 256 ≡ true → accepts (class_from 1 (97 ∷ 98 ∷ []) b) test ≡ byte_at (97 ∷ 98 ∷ []) test b
unfolding accepts
agrees zero b fit = refl
agrees (suc zero) b fit = class_one (eqb b 97) (eqb b 98)
agrees (suc (suc zero)) b fit =
    class_two (eqb b 97) (eqb b 98)
    (λ (h : eqb b 97 ≡ true). let is : b ≡ 97 = eqb-true b 97 h in ne_eqb b 98 (λ (e : b ≡ 98). omega arith))
agrees (suc (suc (suc p))) b fit = let low : b < 256 = ltb-true b 256 fit in sym (ne_eqb b 256 (λ (e : b ≡ 256). omega arith))

proper : Proper ab
proper = from_masks ℕ 3 (byte_at (97 ∷ 98 ∷ [])) _ (λ b. ltb b 256) (class_from 1 (97 ∷ 98 ∷ [])) accepts (record { below = λ b _. class_low (eqb b 97) (eqb b 98); agree = agrees }) (refl, refl) (omega arith)

-- what an answer's outcome says of it
record Finding (a : Answer) : Type 0 where
  pub k : Counts
  pub is : a ≡ Searched (Found (Some (record { start = 0; end = 3 }))) k
  pub reads : k.reads ≡ 6

finding : (a : Answer) → outcome a ≡ finds (Found (Some (record { start = 0; end = 3 }))) 6 → Finding a
finding (Searched f k) e = record { k = k; is = ap (λ x. Searched x k) (cc); reads = cc }
finding (Dropped gone) e = let z : ◌≡◌ {A = ℕ} 0 1 = cc in absurd (omega arith)
finding (Refused q) e = let z : ◌≡◌ {A = ℕ} 0 1 = cc in absurd (omega arith)

-- and its counts say the rest
counted_is : (a : Answer) (known built plain dropped : ℕ) → Finding a → (counts a).known ≡ known → (counts a).built ≡ built → (counts a).plain ≡ plain → (counts a).dropped ≡ dropped → a ≡ counted known built plain dropped
counted_is a known built plain dropped f ek eb ep ed =
    let c : counts a ≡ f.k = ap counts f.is in
    let k : f.k ≡ record { reads = 6; known = known; built = built; plain = plain; dropped = dropped } =
    counts_of f.k known built plain dropped f.reads
    (sym (ap (λ (y : Counts). y.known) c) ∙ ek) (sym (ap (λ (y : Counts). y.built) c) ∙ eb) (sym (ap (λ (y : Counts). y.plain) c) ∙ ep) (sym (ap (λ (y : Counts). y.dropped) c) ∙ ed) in
    f.is ∙ ap (λ y. Searched (Found (Some (record { start = 0; end = 3 }))) y) k
  where
    counts_of : (k : Counts) (b c d e : ℕ) → k.reads ≡ 6 → k.known ≡ b → k.built ≡ c → k.plain ≡ d → k.dropped ≡ e → k ≡ record { reads = 6; known = b; built = c; plain = d; dropped = e }
    counts_of k b c d e ea eb ec ed ee = rw (sym ea, sym eb, sym ec, sym ed, sym ee)

counts_reads : (a : Answer) → Finding a → (counts a).reads ≡ 6
counts_reads a f = ap (λ y. (counts y).reads) f.is ∙ f.reads

heads : {A : Type 0} (x y : A) (xs ys : List A) → ◌≡◌ {A = List A} (x ∷ xs) (y ∷ ys) → x ≡ y
heads x y xs ys e = cc

tails : {A : Type 0} (x y : A) (xs ys : List A) → ◌≡◌ {A = List A} (x ∷ xs) (y ∷ ys) → xs ≡ ys
tails x y xs ys e = cc

found : define ab abb ≡ finds (Found (Some (record { start = 0; end = 3 }))) 6
unfolding those some
found = refl

sets_once : number_of_sets ab (Search abb ∷ []) ≡ 6
unfolding those some
sets_once = refl

steps_once : number_of_steps ab (Search abb ∷ []) ≡ 6
unfolding those some
steps_once = refl

sets_twice : number_of_sets ab (Search abb ∷ Search abb ∷ []) ≡ 6
unfolding those some
sets_twice = refl

steps_twice : number_of_steps ab (Search abb ∷ Search abb ∷ []) ≡ 6
unfolding those some
steps_twice = refl

pub roomy : (places capacity : ℕ) → 6 ≤ places → 6 ≤ capacity → Always places capacity (Search abb ∷ Search abb ∷ []) (counted 0 6 0 0 ∷ counted 6 0 0 0 ∷ [])
roomy places capacity wide deep few [] n s = elim s [ ]
roomy places capacity wide deep few (x ∷ []) n (k, (s, r)) = elim r [ ]
roomy places capacity wide deep few (x ∷ y ∷ z ∷ rs) n (k, (s, (j, (t, e)))) = elim e [ ]
roomy places capacity wide deep few (x ∷ y ∷ []) n (k, (s, (j, (t, e)))) =
    let one = every ab proper places capacity (Search abb ∷ []) (x ∷ []) k few (λ _. omega arith) (k, (s, refl)) in
    let two = every ab proper places capacity (Search abb ∷ Search abb ∷ []) (x ∷ y ∷ []) n few (λ _. omega arith) (k, (s, (j, (t, e)))) in
    let fx = finding x (heads _ _ _ _ one.defined ∙ found) in
    let fy = finding y (heads _ _ _ _ (tails _ _ _ _ two.defined) ∙ found) in
    let rx = counts_reads x fx in
    let ry = counts_reads y fy in
    let ex = one.exact tt (omega (arith, sets_once)) (omega (arith, steps_once)) in
    let ey = two.exact tt (omega (arith, sets_twice)) (omega (arith, steps_twice)) in
    let sx = one.summed.0 in
    let sy = two.summed.1.0 in
    let py = two.unplain.1.0 (omega arith) in
    let bx : (counts x).built ≡ 6 = omega (arith, ex.1, steps_once) in
    let dx : (counts x).dropped ≡ 0 = omega (arith, ex.0) in
    let by : (counts y).built ≡ 0 = omega (arith, ey.1, steps_twice) in
    let dy : (counts y).dropped ≡ 0 = omega (arith, ey.0) in
    let a : x ≡ counted 0 6 0 0 = counted_is x 0 6 0 0 fx (omega arith) bx (omega arith) dx in
    let b : y ≡ counted 6 0 0 0 = counted_is y 6 0 0 0 fy (omega arith) by py dy in
    rw (a, b)

-- at the limit 1

one_place : (places capacity : ℕ) (n : Memory ℕ) (x : Answer) → Answered ab (opened places capacity) (Limit 1) n x → (n ≡ with_limit (opened places capacity) 1) × (x ≡ Dropped 0)
one_place places capacity n x (refused q e at same) = absurd (some_not q e)
one_place places capacity n x (searched q k is e at w) = absurd (limit_search 1 q is)
one_place places capacity n x (cleared gone is at same z) = absurd (clear_limit 1 (sym is))
one_place places capacity n x (limited l gone is e at d) = limit_is l gone (limit_same is) at d
  where
    limit_same : {l : ℕ} → ◌≡◌ {A = Request ℕ} (Limit 1) (Limit l) → l ≡ 1
    limit_same e = cc

    limit_is : (l gone : ℕ) → l ≡ 1 → x ≡ Dropped gone → Limited (opened places capacity) l n gone → (n ≡ with_limit (opened places capacity) 1) × (x ≡ Dropped 0)
    limit_is l gone one at (within few same z) = (same ∙ ap (with_limit (opened places capacity)) one, at ∙ ap Dropped z)
    limit_is l gone one at (beyond many same z) = absurd (omega (arith, (carry_opened ab places capacity).many))

counts_are : (capacity : ℕ) → 0 < capacity → walk_alone ab capacity [] [] (reads ab abb) ≡ record { reads = 6; known = 0; built = 2; plain = 4; dropped = 1 }
unfolding those some
counts_are capacity deep = rw (lt-ltb 0 capacity deep)

findings_are : findings ab abb ≡ Found (Some (record { start = 0; end = 3 }))
unfolding those some
findings_are = refl

one_search : (m : Memory ℕ) (capacity : ℕ) (n : Memory ℕ) (y : Answer) → Sound ab m → allowance m ≡ 1 → m.capacity ≡ capacity → 0 < capacity → Carry ab m [] [] → Answered ab m (Search abb) n y → y ≡ counted 0 2 4 1
one_search m capacity n y ok one cap deep c (refused q e at same) = absurd (some_not q e)
one_search m capacity n y ok one cap deep c (limited l gone is e at d) = absurd (limit_search l abb (sym is))
one_search m capacity n y ok one cap deep c (cleared gone is at same z) = absurd (clear_search abb (sym is))
one_search m capacity n y ok one cap deep c (searched q k is e at w) =
    let same : q ≡ abb = search_same q abb (sym is) in
    let P : Query ℕ → Type 0 = λ p. Walk ab m (reads ab p) n k in
    let counts_is : k ≡ record { reads = 6; known = 0; built = 2; plain = 4; dropped = 1 } =
    alone_walk ab proper m (reads ab abb) n k [] [] capacity ok one cap c (subst P same w) ∙ counts_are capacity deep in
    at ∙ ap (λ p. Searched (findings ab p) k) same ∙ ap (λ f. Searched f k) findings_are ∙ ap (λ t. Searched (Found (Some (record { start = 0; end = 3 }))) t) counts_is

pub alone : (places capacity : ℕ) → 0 < places → 0 < capacity → Always places capacity (Limit 1 ∷ Search abb ∷ []) (Dropped 0 ∷ counted 0 2 4 1 ∷ [])
alone places capacity wide deep few [] n s = elim s [ ]
alone places capacity wide deep few (x ∷ []) n (k, (s, r)) = elim r [ ]
alone places capacity wide deep few (x ∷ y ∷ z ∷ rs) n (k, (s, (j, (t, e)))) = elim e [ ]
alone places capacity wide deep few (x ∷ y ∷ []) n (k, (s, (j, (t, e)))) =
    let o = one_place places capacity k x s in
    let ok : Sound ab (opened places capacity) = sound_empty ab (opened places capacity) few (λ _. deep) (omega arith) in
    let P : Memory ℕ → Type 0 = λ m. Sound ab m in
    let Q : Memory ℕ → Type 0 = λ m. Answered ab m (Search abb) j y in
    let ok' : Sound ab (with_limit (opened places capacity) 1) = subst P o.0 (calling ab proper (opened places capacity) (Limit 1) k x ok s).sound in
    let a = o.1 in
    let b = one_search (with_limit (opened places capacity) 1) capacity j y ok' (omega arith) refl deep (carry_limit ab (opened places capacity) 1 [] [] (carry_opened ab places capacity)) (subst Q o.0 t) in
    rw (a, b)
