-- Seating keeps a memory sound.
use Rattle.std.proofs.Common.{◌≡◌, ℕ, ◌+◌, ◌<◌, ◌≤◌, Bool, true, false, cond, not, ◌&&◌, ◌||◌, eqb, ◌⊎◌, Some, None, Option, sym, refl, ap, ◌∙◌, subst, inl, inr, ⊎_elim, arith}
use Rattle.std.proofs.lemmas.Bool.{cases_Bool, cases_eq, eq-eqb, ne_eqb, both_ways, lt-ltb}
use Rattle.sets.specs.Members.{Members}
use Rattle.sets.specs.Lowest.{LowestFree}
use Rattle.memory.specs.Live.{May}
use Rattle.theory.specs.Reads.{State}
use Rattle.law.specs.Subject.{Subject}
use Rattle.law.specs.Memory.{Memory, taken, held_places, sets_live, steps_known, allowance, Absent, with_set, without_places, Chosen, Seated, already, room, made, nowhere, Joins, Sound}
use Rattle.law.proofs.Tally.{tally_zero, tally_put, tally_mono, tally_fewer, tally_single, tally_lowest}
use Rattle.law.proofs.Maps.{some_not, some_same, left}

and_false : (b : Bool) → (b && false) ≡ false
and_false true = refl
and_false false = refl

and_true : (b : Bool) → (b && true) ≡ b
and_true true = refl
and_true false = refl

module _ {States : Type 0} where
  pub not_taken : (o : Option (State States)) → taken o ≡ false → o ≡ None
  not_taken None h = refl
  not_taken (Some s) h = absurd (both_ways true h refl)

  pub taken_some : (o : Option (State States)) → taken o ≡ true → (s : State States) × (o ≡ Some s)
  taken_some None h = absurd (both_ways false refl h)
  taken_some (Some s) h = (s, refl)

  -- a set takes a place

  pub put_here : (m : Memory States) (p : ℕ) (s : State States) → (with_set m p s).live p ≡ Some s
  put_here m p s = rw (eq-eqb p p refl)

  pub put_other : (m : Memory States) (p : ℕ) (s : State States) (q : ℕ) → (q ≡ p → ⊥) → (with_set m p s).live q ≡ m.live q
  put_other m p s q ne = rw (ne_eqb q p ne)

  pub put_stays : (m : Memory States) (p : ℕ) (s : State States) (q : ℕ) (x : State States) → m.live p ≡ None → m.live q ≡ Some x → (with_set m p s).live q ≡ Some x
  put_stays m p s q x free e = put_other m p s q (λ (h : q ≡ p). some_not x (sym free ∙ ap m.live (sym h) ∙ e)) ∙ e

  pub put_cases : (m : Memory States) (p : ℕ) (s : State States) (q : ℕ) (x : State States) → (with_set m p s).live q ≡ Some x → ((q ≡ p) × (x ≡ s)) ⊎ (m.live q ≡ Some x)
  put_cases m p s q x e =
      ⊎_elim
      (λ (h : q ≡ p). inl (h, some_same x s (sym e ∙ ap (with_set m p s).live h ∙ put_here m p s)))
      (λ (h : q ≡ p → ⊥). inr (sym (put_other m p s q h) ∙ e))
      (cases_eq q p)

  pub put_count : (m : Memory States) (p : ℕ) (s : State States) → p < 64 → m.live p ≡ None → sets_live (with_set m p s) ≡ sets_live m + 1
  put_count m p s l free =
      tally_put (held_places m) (held_places (with_set m p s)) 64 p l (ap taken free) (ap taken (put_here m p s))
      (λ j ne. ap taken (sym (put_other m p s j ne)))

  heard_put : (m : Memory States) (p : ℕ) (s : State States) (k : ℕ) → p < 64 → m.told k ≡ taken (m.live k) → (with_set m p s).told k ≡ taken ((with_set m p s).live k)
  heard_put m p s k l h =
      ap (λ b. (b && eqb k p) || m.told k) (lt-ltb p 64 l)
      ∙ (elim (eqb k p) as (λ b. (b || m.told k) ≡ taken (cond b (Some s) (m.live k))) [ true ↦ refl | false ↦ h ])

  -- places are dropped

  pub drop_was : (m : Memory States) (x : Members) (q : ℕ) (s : State States) → (without_places m x).live q ≡ Some s → (m.live q ≡ Some s) × (x q ≡ false)
  drop_was m x q s e =
      ⊎_elim
      (λ (h : x q ≡ true). absurd (some_not s (sym (ap (λ b. cond b None (m.live q)) h) ∙ e)))
      (λ (h : x q ≡ false). (sym (ap (λ b. cond b None (m.live q)) h) ∙ e, h))
      (cases_Bool (x q))

  pub drop_stays : (m : Memory States) (x : Members) (q : ℕ) (o : Option (State States)) → x q ≡ false → m.live q ≡ o → (without_places m x).live q ≡ o
  drop_stays m x q o h e = ap (λ b. cond b None (m.live q)) h ∙ e

  drop_fewer : (m : Memory States) (x : Members) (k : ℕ) → held_places (without_places m x) k ≡ true → held_places m k ≡ true
  drop_fewer m x k h =
      let (s, e) = taken_some ((without_places m x).live k) h in
      ap taken (drop_was m x k s e).0

  heard_drop : (m : Memory States) (x : Members) (k : ℕ) → m.told k ≡ taken (m.live k) → (without_places m x).told k ≡ taken ((without_places m x).live k)
  heard_drop m x k h =
      elim (x k) as (λ b. (m.told k && not b) ≡ taken (cond b None (m.live k))) [ true ↦ and_false (m.told k) | false ↦ and_true (m.told k) ∙ h ]

module _ {Sym States : Type 0} (M : Subject Sym States) where
  joins_put : (m : Memory States) (p : ℕ) (s : State States) (q c t : ℕ) → m.live p ≡ None → Joins M m q c t → Joins M (with_set m p s) q c t
  joins_put m p s q c t free j =
      record {
        direction = j.direction;
        from = j.from;
        to = j.to;
        here = put_stays m p s q (record { direction = j.direction; set = j.from }) free j.here;
        there = put_stays m p s t (record { direction = j.direction; set = j.to }) free j.there;
        follows = j.follows;
      }

  pub sound_put : (m : Memory States) (p : ℕ) (s : State States) → Sound M m → p < m.places → m.live p ≡ None → Absent m s → sets_live m < allowance m → Sound M (with_set m p s)
  sound_put m p s ok l free out below =
      let high : p < 64 = omega (arith, ok.few) in
      record {
        heard = λ k. heard_put m p s k high (ok.heard k);
        low = λ q x e. ⊎_elim (λ (h : (q ≡ p) × (x ≡ s)). rw h.0 l) (λ (h : m.live q ≡ Some x). ok.low q x h) (put_cases m p s q x e);
        few = ok.few;
        some = ok.some;
        limited = ok.limited;
        once = λ q u x e f.
            ⊎_elim
            (λ (h : (q ≡ p) × (x ≡ s)).
            ⊎_elim
            (λ (i : (u ≡ p) × (x ≡ s)). h.0 ∙ sym i.0)
            (λ (i : m.live u ≡ Some x). absurd (out u (i ∙ ap Some h.1)))
            (put_cases m p s u x f))
            (λ (h : m.live q ≡ Some x).
            ⊎_elim
            (λ (i : (u ≡ p) × (x ≡ s)). absurd (out q (h ∙ ap Some i.1)))
            (λ (i : m.live u ≡ Some x). ok.once q u x h i)
            (put_cases m p s u x f))
            (put_cases m p s q x e);
        allowed = omega (arith, put_count m p s high free);
        classes = ok.classes;
        joins = λ q c t e. joins_put m p s q c t free (ok.joins q c t e);
        fits = ok.fits;
      }

  joins_drop : (m : Memory States) (x : Members) (q c t : ℕ) → x q ≡ false → x t ≡ false → Joins M m q c t → Joins M (without_places m x) q c t
  joins_drop m x q c t hq ht j =
      record {
        direction = j.direction;
        from = j.from;
        to = j.to;
        here = drop_stays m x q (Some (record { direction = j.direction; set = j.from })) hq j.here;
        there = drop_stays m x t (Some (record { direction = j.direction; set = j.to })) ht j.there;
        follows = j.follows;
      }

  pub sound_drop : (m : Memory States) (x : Members) → Sound M m → steps_known (without_places m x) ≤ steps_known m → Sound M (without_places m x)
  sound_drop m x ok less_steps =
      record {
        heard = λ k. heard_drop m x k (ok.heard k);
        low = λ q s e. ok.low q s (drop_was m x q s e).0;
        few = ok.few;
        some = ok.some;
        limited = ok.limited;
        once = λ q u s e f. ok.once q u s (drop_was m x q s e).0 (drop_was m x u s f).0;
        allowed = omega (arith, ok.allowed, tally_mono (held_places (without_places m x)) (held_places m) 64 (drop_fewer m x));
        classes = λ q c t e. ok.classes q c t (left m.known x q c t e).was;
        joins = λ q c t e. let l = left m.known x q c t e in joins_drop m x q c t l.from l.to (ok.joins q c t l.was);
        fits = omega (arith, ok.fits);
      }

  pub room_made : (m : Memory States) (x : Members) (held : Option ℕ) → Sound M m → Chosen m held x → sets_live (without_places m x) < sets_live m
  room_made m x held ok ch =
      let k = ch.some.0 in
      let h : x k ≡ true = ch.some.1 in
      tally_fewer (held_places (without_places m x)) (held_places m) 64 k (ch.low k h)
      (ap (λ b. taken (cond b None (m.live k))) h)
      (sym (ok.heard k) ∙ (ch.within k h).0)
      (drop_fewer m x)

  pub lowest_low : (m : Memory States) (p : ℕ) → Sound M m → sets_live m < allowance m → LowestFree (held_places m) p → p < m.places
  lowest_low m p ok below free =
      let few : p ≤ 64 = omega (arith, free.low) in
      omega (arith, tally_lowest (held_places m) 64 p few free.lower, ok.few)

  -- what a seating brings
  pub record Seating (m : Memory States) (s : State States) (held : Option ℕ) (n : Memory States) (r : Option ℕ) (gone : ℕ) : Type 0 where
    pub sound : Sound M n
    pub here : (p : ℕ) → r ≡ Some p → n.live p ≡ Some s
    pub stays : (q : ℕ) (x : State States) → held ≡ Some q → m.live q ≡ Some x → n.live q ≡ Some x
    pub fewer : (q c t : ℕ) → n.known q c ≡ Some t → m.known q c ≡ Some t
    pub balance : gone + steps_known n ≡ steps_known m
    pub limit : n.limit ≡ m.limit
    pub places : n.places ≡ m.places
    pub capacity : n.capacity ≡ m.capacity

  seat_same : (m : Memory States) (s : State States) (held : Option ℕ) (r : Option ℕ) (gone : ℕ) → Sound M m → ((p : ℕ) → r ≡ Some p → m.live p ≡ Some s) → gone ≡ 0 → Seating m s held m r gone
  seat_same m s held r gone ok at z =
      record { sound = ok; here = at; stays = λ q x _ e. e; fewer = λ q c t e. e; balance = omega arith; limit = refl; places = refl; capacity = refl }

  seat_free : (m : Memory States) (s : State States) (held : Option ℕ) (p : ℕ) (r : Option ℕ) (gone : ℕ) → Sound M m → Absent m s → sets_live m < allowance m → LowestFree (held_places m) p → r ≡ Some p → gone ≡ 0 → Seating m s held (with_set m p s) r gone
  seat_free m s held p r gone ok out below free at z =
      let empty : m.live p ≡ None = not_taken (m.live p) free.free in
      record {
        sound = sound_put m p s ok (lowest_low m p ok below free) empty out below;
        here = λ q e. let h : p ≡ q = some_same p q (sym at ∙ e) in ap (with_set m p s).live (sym h) ∙ put_here m p s;
        stays = λ q x _ e. put_stays m p s q x empty e;
        fewer = λ q c t e. e;
        balance = omega arith;
        limit = refl;
        places = refl;
        capacity = refl;
      }

  held_kept : (m : Memory States) (held : Option ℕ) (x : Members) (q : ℕ) → Chosen m held x → held ≡ Some q → x q ≡ false
  held_kept m held x q ch e = ⊎_elim (λ (h : x q ≡ true). absurd ((ch.within q h).1 e)) (λ (h : x q ≡ false). h) (cases_Bool (x q))

  seat_made : (m : Memory States) (s : State States) (held : Option ℕ) (x : Members) (p : ℕ) (r : Option ℕ) (gone : ℕ) → Sound M m → Absent m s → Chosen m held x → LowestFree (held_places (without_places m x)) p → r ≡ Some p → gone + steps_known (without_places m x) ≡ steps_known m → Seating m s held (with_set (without_places m x) p s) r gone
  seat_made m s held x p r gone ok out ch free at z =
      let ok' : Sound M (without_places m x) = sound_drop m x ok (omega arith) in
      let below : sets_live (without_places m x) < allowance (without_places m x) = omega (arith, room_made m x held ok ch, ok.allowed) in
      let out' : Absent (without_places m x) s = λ q e. out q (drop_was m x q s e).0 in
      let i = seat_free (without_places m x) s held p r 0 ok' out' below free at refl in
      record {
        sound = i.sound;
        here = i.here;
        stays = λ q y h e. i.stays q y h (drop_stays m x q (Some y) (held_kept m held x q ch h) e);
        fewer = λ q c t e. (left m.known x q c t e).was;
        balance = z;
        limit = refl;
        places = refl;
        capacity = refl;
      }

  pub seating : (m : Memory States) (s : State States) (held : Option ℕ) (n : Memory States) (r : Option ℕ) (gone : ℕ) → Sound M m → Seated m s held n r gone → Seating m s held n r gone
  seating m s held n r gone ok (already p e at same z) =
      let P : Memory States → Type 0 = λ j. Seating m s held j r gone in
      subst P (sym same) (seat_same m s held r gone ok (λ q f. ap m.live (some_same q p (sym f ∙ at)) ∙ e) z)
  seating m s held n r gone ok (room p out below free at same z) =
      let P : Memory States → Type 0 = λ j. Seating m s held j r gone in
      subst P (sym same) (seat_free m s held p r gone ok out below free at z)
  seating m s held n r gone ok (made x p out above ch free at same z) =
      let P : Memory States → Type 0 = λ j. Seating m s held j r gone in
      subst P (sym same) (seat_made m s held x p r gone ok out ch free at z)
  seating m s held n r gone ok (nowhere out above nay at same z) =
      let P : Memory States → Type 0 = λ j. Seating m s held j r gone in
      subst P (sym same) (seat_same m s held r gone ok (λ q f. absurd (some_not q (sym at ∙ f))) z)

  -- a set is seated nowhere only at an allowance of one, or of none if nothing was held
  unheld : (m : Memory States) (q : ℕ) → Sound M m → ((k : ℕ) → May m.told (Some q) k → ⊥) → sets_live m ≤ 1
  unheld m q ok nay =
      tally_single (held_places m) 64 q
      (λ k t. ⊎_elim (λ (e : k ≡ q). e) (λ (e : k ≡ q → ⊥). absurd (nay k (ok.heard k ∙ t, λ h. e (sym (some_same q k h))))) (cases_eq k q))

  pub unseated : (m : Memory States) → Sound M m → ((k : ℕ) → May m.told None k → ⊥) → sets_live m ≡ 0
  unseated m ok nay =
      tally_zero (held_places m) 64 (λ k t. nay k (ok.heard k ∙ t, λ h. some_not k h))

  by_held : (m : Memory States) (held : Option ℕ) → Sound M m → ((k : ℕ) → May m.told held k → ⊥) → sets_live m ≤ 1
  by_held m None ok nay = omega (arith, unseated m ok nay)
  by_held m (Some q) ok nay = unheld m q ok nay

  pub nowhere_few : (m : Memory States) (s : State States) (held : Option ℕ) (n : Memory States) (r : Option ℕ) (gone : ℕ) → Sound M m → Seated m s held n r gone → r ≡ None → allowance m ≤ 1
  nowhere_few m s held n r gone ok (already p e at same z) h = absurd (some_not p (sym h ∙ at))
  nowhere_few m s held n r gone ok (room p out below free at same z) h = absurd (some_not p (sym h ∙ at))
  nowhere_few m s held n r gone ok (made x p out above ch free at same z) h = absurd (some_not p (sym h ∙ at))
  nowhere_few m s held n r gone ok (nowhere out above nay at same z) h = omega (arith, by_held m held ok nay)
