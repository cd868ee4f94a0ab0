-- Every row of requests can be answered: some policy, that gives up one place at a time, always has a way on.
use Rattle.std.proofs.Common.{◌≡◌, ℕ, zero, suc, ◌-◌, ◌*◌, ◌/◌, ◌%◌, ◌<◌, ◌≤◌, Bool, true, false, cond, eqb, ltb, ◌⊎◌, List, [], ◌∷◌, ◌++◌, drop, Some, None, Option, sym, refl, ap, ◌∙◌, subst, inl, inr, ⊎_elim, arith}
use Rattle.std.proofs.lemmas.Bool.{cases_Bool, cases_eq, both_ways, eqb-true, eq-eqb, ltb-true, ltb-false}
use Rattle.refusal.specs.declared.Refusal.{Refusal}
use Rattle.sets.specs.Members.{Members}
use Rattle.sets.specs.Lowest.{LowestFree}
use Rattle.memory.specs.Steps.{Map, without, unless, size, one}
use Rattle.memory.specs.Steps as maps
use Rattle.memory.specs.Live.{May}
use Rattle.theory.specs.declared.Span.{Span}
use Rattle.theory.specs.Scans.{find, start}
use Rattle.theory.specs.Reads.{Read, State, source, target, back_reads, ahead_reads, start_reads, find_reads, next_reads, list_reads}
use Rattle.law.specs.Subject.{Subject, Proper}
use Rattle.law.specs.Memory.{Memory, held_places, sets_live, allowance, steps_known, Absent, without_places, with_limit, opened, Chosen, Seated, already, room, made, nowhere, spare, full, Sound}
use Rattle.law.specs.Reading.{Counts, OneRead, known, built, plain, Walk}
use Rattle.law.specs.Calls.{Query, Find, Lists, Whole, Request, Search, Limit, Clear, Answer, Refused, refusal, reads, within, beyond, Answered, refused, searched, limited, cleared, Series}
use Rattle.law.specs.Met.{same_state}
use Rattle.law.specs.Law.{Fit, Fitting, Possible}
use Rattle.law.proofs.Tally.{tally_lowest}
use Rattle.law.proofs.Maps.{some_not, some_same}
use Rattle.law.proofs.Seats.{taken_some, seating, room_made}
use Rattle.law.proofs.Readings.{cases_step, reading}
use Rattle.law.proofs.Once.{state_same, same_state_self}
use Rattle.law.proofs.Calling.{sound_empty, calling}

-- a drop leaves no more steps than there were

left_one : (x : Members) (b : Bool) (o : Option ℕ) → one (cond b None (unless x o)) ≤ one o
left_one x true None = omega arith
left_one x true (Some t) = omega arith
left_one x false None = omega arith
left_one x false (Some t) = elim (x t) as (λ c. one (cond c None (Some t)) ≤ 1) [ true ↦ omega arith | false ↦ omega arith ]

left_tally : (f g : ℕ → Option ℕ) (n : ℕ) → ((k : ℕ) → one (f k) ≤ one (g k)) → maps.tally f n ≤ maps.tally g n
unfolding maps.tally
left_tally f g zero h = omega arith
left_tally f g (suc n) h = omega (arith, h n, left_tally f g n h)

left_size : (n : ℕ) (f : Map) (x : Members) → size n (without f x) ≤ size n f
unfolding size
left_size n f x = left_tally (λ i. without f x (i / 256) (i % 256)) (λ i. f (i / 256) (i % 256)) (n * 256) (λ k. left_one x (x (k / 256)) (f (k / 256) (k % 256)))

-- the lowest place that is not taken, if there is one
lowest : (f : Members) (n : ℕ) → ((p : ℕ) × ((p < n) × (f p ≡ false) × ((k : ℕ) → k < p → f k ≡ true))) ⊎ ((k : ℕ) → k < n → f k ≡ true)
lowest f zero = inr (λ k l. absurd (omega arith))
lowest f (suc n) =
    ⊎_elim
    (λ (h : (p : ℕ) × ((p < n) × (f p ≡ false) × ((k : ℕ) → k < p → f k ≡ true))). inl (h.0, (omega (arith, h.1.0), h.1.1, h.1.2)))
    (λ (h : (k : ℕ) → k < n → f k ≡ true).
    ⊎_elim
    (λ (t : f n ≡ true). inr (λ k l. ⊎_elim (λ (e : k ≡ n). ap f e ∙ t) (λ (d : k ≡ n → ⊥). h k (omega arith)) (cases_eq k n)))
    (λ (t : f n ≡ false). inl (n, (omega arith, t, h)))
    (cases_Bool (f n)))
    (lowest f n)

lowest_free : (f : Members) → Rattle.sets.specs.Members.tally f 64 < 64 → (p : ℕ) × LowestFree f p
lowest_free f few =
    ⊎_elim
    (λ (h : (p : ℕ) × ((p < 64) × (f p ≡ false) × ((k : ℕ) → k < p → f k ≡ true))). (h.0, record { low = h.1.0; free = h.1.1; lower = h.1.2 }))
    (λ (h : (k : ℕ) → k < 64 → f k ≡ true). absurd (omega (arith, tally_lowest f 64 64 (omega arith) h)))
    (lowest f 64)

-- whether a place may be given up
cases_held : (held : Option ℕ) (k : ℕ) → (held ≡ Some k) ⊎ (held ≡ Some k → ⊥)
cases_held None k = inr (λ e. some_not k e)
cases_held (Some q) k = ⊎_elim (λ (e : q ≡ k). inl (ap Some e)) (λ (d : q ≡ k → ⊥). inr (λ h. d (some_same q k h))) (cases_eq q k)

cases_may : (told : Members) (held : Option ℕ) (n : ℕ) → ((k : ℕ) × ((k < n) × May told held k)) ⊎ ((k : ℕ) → k < n → May told held k → ⊥)
cases_may told held zero = inr (λ k l. absurd (omega arith))
cases_may told held (suc n) =
    ⊎_elim
    (λ (h : (k : ℕ) × ((k < n) × May told held k)). inl (h.0, (omega (arith, h.1.0), h.1.1)))
    (λ (h : (k : ℕ) → k < n → May told held k → ⊥).
    let last : (May told held n → ⊥) → (k : ℕ) → k < suc n → May told held k → ⊥ = λ no k l m.
    ⊎_elim (λ (e : k ≡ n). let P : ℕ → Type 0 = λ y. May told held y in no (subst P e m)) (λ (d : k ≡ n → ⊥). h k (omega arith) m) (cases_eq k n) in
    ⊎_elim
    (λ (t : told n ≡ true). ⊎_elim (λ (e : held ≡ Some n). inr (last (λ m. m.1 e))) (λ (d : held ≡ Some n → ⊥). inl (n, (omega arith, (t, d)))) (cases_held held n))
    (λ (t : told n ≡ false). inr (last (λ m. both_ways (told n) t m.0)))
    (cases_Bool (told n)))
    (cases_may told held n)

module _ {Sym States : Type 0} (M : Subject Sym States) (law : Proper M) where
  -- whether a set is live
  at_place : (o : Option (State States)) (s : State States) → (o ≡ Some s) ⊎ (o ≡ Some s → ⊥)
  at_place None s = inr (λ e. some_not s e)
  at_place (Some t) s =
      ⊎_elim
      (λ (e : same_state M t s ≡ true). inl (ap Some (state_same M law t s e)))
      (λ (e : same_state M t s ≡ false). inr (λ h. both_ways (same_state M t s) e (ap (same_state M t) (sym (some_same t s h)) ∙ same_state_self M law t)))
      (cases_Bool (same_state M t s))

  cases_live : (m : Memory States) (s : State States) (n : ℕ) → ((p : ℕ) × (m.live p ≡ Some s)) ⊎ ((p : ℕ) → p < n → m.live p ≡ Some s → ⊥)
  cases_live m s zero = inr (λ p l. absurd (omega arith))
  cases_live m s (suc n) =
      ⊎_elim
      (λ (e : m.live n ≡ Some s). inl (n, e))
      (λ (no : m.live n ≡ Some s → ⊥).
      ⊎_elim
      (λ (h : (p : ℕ) × (m.live p ≡ Some s)). inl h)
      (λ (h : (p : ℕ) → p < n → m.live p ≡ Some s → ⊥).
      inr (λ p l e. ⊎_elim (λ (q : p ≡ n). no (ap m.live (sym q) ∙ e)) (λ (d : p ≡ n → ⊥). h p (omega arith) e) (cases_eq p n)))
      (cases_live m s n))
      (at_place (m.live n) s)

  -- a set can be seated
  record Seatable (m : Memory States) (s : State States) (held : Option ℕ) : Type 0 where
    pub after : Memory States
    pub place : Option ℕ
    pub gone : ℕ
    pub seated : Seated m s held after place gone

  give_up : (m : Memory States) (held : Option ℕ) (k : ℕ) → k < 64 → May m.told held k → Chosen m held (λ j. eqb j k)
  give_up m held k l may =
      record {
        within = λ j e. let P : ℕ → Type 0 = λ y. May m.told held y in subst P (sym (eqb-true j k e)) may;
        low = λ j e. let q : j ≡ k = eqb-true j k e in omega arith;
        some = (k, eq-eqb k k refl);
      }

  seat_made : (m : Memory States) (s : State States) (held : Option ℕ) (k : ℕ) → Sound M m → Absent m s → allowance m ≤ sets_live m → k < 64 → May m.told held k → Seatable m s held
  seat_made m s held k ok out above l may =
      let x : Members = λ j. eqb j k in
      let ch = give_up m held k l may in
      let (p, free) = lowest_free (held_places (without_places m x)) (omega (arith, room_made M m x held ok ch, ok.allowed, ok.limited)) in
      record {
        after = _;
        place = Some p;
        gone = steps_known m - steps_known (without_places m x);
        seated = made x p out above ch free refl refl (omega (arith, left_size m.places m.known x));
      }

  seat_out : (m : Memory States) (s : State States) (held : Option ℕ) → Sound M m → Absent m s → Seatable m s held
  seat_out m s held ok out =
      ⊎_elim
      (λ (e : ltb (sets_live m) (allowance m) ≡ true).
      let below : sets_live m < allowance m = ltb-true (sets_live m) (allowance m) e in
      let (p, free) = lowest_free (held_places m) (omega (arith, ok.limited)) in
      record { after = _; place = Some p; gone = 0; seated = room p out below free refl refl refl })
      (λ (e : ltb (sets_live m) (allowance m) ≡ false).
      let above : allowance m ≤ sets_live m = ltb-false (sets_live m) (allowance m) e in
      ⊎_elim
      (λ (h : (k : ℕ) × ((k < 64) × May m.told held k)). seat_made m s held h.0 ok out above h.1.0 h.1.1)
      (λ (h : (k : ℕ) → k < 64 → May m.told held k → ⊥).
      record {
        after = m;
        place = None;
        gone = 0;
        seated = nowhere out above
            (λ k may. let (t, f) = taken_some (m.live k) (sym (ok.heard k) ∙ may.0) in h k (omega (arith, ok.low k t f, ok.few)) may) refl refl refl;
      })
      (cases_may m.told held 64))
      (cases_Bool (ltb (sets_live m) (allowance m)))

  seatable : (m : Memory States) (s : State States) (held : Option ℕ) → Sound M m → Seatable m s held
  seatable m s held ok =
      ⊎_elim
      (λ (h : (p : ℕ) × (m.live p ≡ Some s)). record { after = m; place = Some h.0; gone = 0; seated = already h.0 h.1 refl refl refl })
      (λ (h : (p : ℕ) → p < 64 → m.live p ≡ Some s → ⊥). seat_out m s held ok (λ p e. h p (omega (arith, ok.low p s e, ok.few)) e))
      (cases_live m s 64)

  -- a symbol can be read
  record Readable (m : Memory States) (x : Read Sym States) : Type 0 where
    pub after : Memory States
    pub counts : Counts
    pub is : OneRead M m x after counts

  read_plain : (m : Memory States) (x : Read Sym States) (i : Seatable m (source x) None) → Sound M m → M.fit x.symbol ≡ true → i.place ≡ None → Readable m x
  read_plain m x i ok fit e =
      let P : Option ℕ → Type 0 = λ r. Seated m (source x) None i.after r i.gone in
      let s = subst P e i.seated in
      let j = seatable i.after (target M.machine x) None (seating M m (source x) None i.after None i.gone ok s).sound in
      record { after = j.after; counts = _; is = plain i.after None j.place i.gone j.gone fit s tt j.seated (inl refl) refl }

  read_new : (m : Memory States) (x : Read Sym States) (h : Memory States) (p gone : ℕ) → Sound M m → M.fit x.symbol ≡ true → Seated m (source x) None h (Some p) gone → h.known p (M.class_of x.symbol) ≡ None → Readable m x
  read_new m x h p gone ok fit s e =
      let j = seatable h (target M.machine x) (Some p) (seating M m (source x) None h (Some p) gone ok s).sound in
      let P : Option ℕ → Type 0 = λ r. Seated h (target M.machine x) (Some p) j.after r j.gone in
      ⊎_elim
      (λ (n : j.place ≡ None). record { after = j.after; counts = _; is = plain h (Some p) j.place gone j.gone fit s e j.seated (inr n) refl })
      (λ (n : (t : ℕ) × (j.place ≡ Some t)).
      ⊎_elim
      (λ (l : ltb (steps_known j.after) j.after.capacity ≡ true).
      record { after = _; counts = _; is = built h j.after p n.0 gone j.gone 0 fit s e (subst P n.1 j.seated) (spare (ltb-true (steps_known j.after) j.after.capacity l) refl refl) refl })
      (λ (l : ltb (steps_known j.after) j.after.capacity ≡ false).
      record { after = _; counts = _; is = built h j.after p n.0 gone j.gone (steps_known j.after) fit s e (subst P n.1 j.seated) (full (ltb-false (steps_known j.after) j.after.capacity l) refl refl) refl })
      (cases_Bool (ltb (steps_known j.after) j.after.capacity)))
      (cases_step j.place)

  readable : (m : Memory States) (x : Read Sym States) → Sound M m → M.fit x.symbol ≡ true → Readable m x
  readable m x ok fit =
      let i = seatable m (source x) None ok in
      let P : Option ℕ → Type 0 = λ r. Seated m (source x) None i.after r i.gone in
      ⊎_elim
      (λ (n : i.place ≡ None). read_plain m x i ok fit n)
      (λ (n : (p : ℕ) × (i.place ≡ Some p)).
      let s = subst P n.1 i.seated in
      ⊎_elim
      (λ (e : i.after.known n.0 (M.class_of x.symbol) ≡ None). read_new m x i.after n.0 i.gone ok fit s e)
      (λ (e : (t : ℕ) × (i.after.known n.0 (M.class_of x.symbol) ≡ Some t)).
      record { after = i.after; counts = _; is = known n.0 e.0 i.gone fit s e.1 refl })
      (cases_step (i.after.known n.0 (M.class_of x.symbol))))
      (cases_step i.place)

  -- a row of reads can be made
  abbrev Fits : List (Read Sym States) → Type 0
  Fits [] = Unit {0}
  Fits (x ∷ xs) = (M.fit x.symbol ≡ true) × Fits xs

  record Walkable (m : Memory States) (xs : List (Read Sym States)) : Type 0 where
    pub after : Memory States
    pub counts : Counts
    pub walk : Walk M m xs after counts

  walkable : (m : Memory States) (xs : List (Read Sym States)) → Sound M m → Fits xs → Walkable m xs
  walkable m [] ok fits = record { after = m; counts = _; walk = (refl, refl) }
  walkable m (x ∷ xs) ok (fit, fits) =
      let i = readable m x ok fit in
      let j = walkable i.after xs (reading M law m x i.after i.counts ok i.is).sound fits in
      record { after = j.after; counts = _; walk = (i.after, (i.counts, (j.counts, (i.is, j.walk, refl)))) }

  -- what a search reads are symbols of its record

  fits_append : (xs ys : List (Read Sym States)) → Fits xs → Fits ys → Fits (xs ++ ys)
  fits_append [] ys f g = g
  fits_append (x ∷ xs) ys (e, f) g = (e, fits_append xs ys f g)

  fit_drop : (n : ℕ) (w : List Sym) → Fit M w → Fit M (drop n w)
  fit_drop zero w f = f
  fit_drop (suc n) [] f = tt
  fit_drop (suc n) (a ∷ w) (e, f) = fit_drop n w f

  fits_back : (w : List Sym) → Fit M w → Fits (back_reads M.machine w)
  fits_back [] f = tt
  fits_back (a ∷ w) (e, f) = fits_append (back_reads M.machine w) _ (fits_back w f) (e, tt)

  fits_ahead : (S : States) (w : List Sym) → Fit M w → Fits (ahead_reads M.machine S w)
  fits_ahead S [] f = tt
  fits_ahead S (a ∷ w) (e, f) =
      let rest = fits_ahead (M.machine.ahead S a) w f in
      (e, elim (M.machine.empty (M.machine.ahead S a)) as (λ b. Fits (cond b [] (ahead_reads M.machine (M.machine.ahead S a) w))) [ true ↦ tt | false ↦ rest ])

  fits_start : (r : List Sym) (o : Option ℕ) → Fit M r → Fits (start_reads M.machine r o)
  fits_start r None f = tt
  fits_start r (Some s) f = fits_ahead M.machine.begin (drop s r) (fit_drop s r f)

  fits_find : (r : List Sym) (from : ℕ) → Fit M r → Fits (find_reads M.machine r from)
  fits_find r from f = fits_append (back_reads M.machine (drop from r)) _ (fits_back (drop from r) (fit_drop from r f)) (fits_start r (start M.machine from (drop from r)) f)

  fits_next : (o : Option Span) (further : ℕ → List (Read Sym States)) → ((e : ℕ) → Fits (further e)) → Fits (next_reads o further)
  fits_next None further f = tt
  fits_next (Some x) further f = f x.end

  fits_list : (r : List Sym) (entries from : ℕ) → Fit M r → Fits (list_reads M.machine r entries from)
  fits_list r zero from f = fits_find r from f
  fits_list r (suc entries) from f =
      fits_append (find_reads M.machine r from) _ (fits_find r from f)
      (fits_next (find M.machine r from) (list_reads M.machine r entries) (λ e. fits_list r entries e f))

  fits_query : (q : Query Sym) (cs : List (Request Sym)) → Fitting M (Search q ∷ cs) → Fits (reads M q) × Fitting M cs
  fits_query (Find r from) cs (f, g) = (fits_find r from f, g)
  fits_query (Lists r from entries) cs (f, g) = (fits_list r entries from f, g)
  fits_query (Whole r) cs (f, g) = (fits_ahead M.machine.begin r f, g)

  -- a call can be answered
  record Answerable (m : Memory States) (c : Request Sym) : Type 0 where
    pub after : Memory States
    pub answer : Answer
    pub is : Answered M m c after answer

  cases_refusal : (o : Option Refusal) → (o ≡ None) ⊎ ((q : Refusal) × (o ≡ Some q))
  cases_refusal None = inl refl
  cases_refusal (Some q) = inr (q, refl)

  unless_refused : (m : Memory States) (c : Request Sym) → (refusal c ≡ None → Answerable m c) → Answerable m c
  unless_refused m c f =
      ⊎_elim f (λ (h : (q : Refusal) × (refusal c ≡ Some q)). record { after = m; answer = Refused h.0; is = refused h.0 h.1 refl refl }) (cases_refusal (refusal c))

  call_limit : (m : Memory States) (l : ℕ) → refusal {Sym = Sym} (Limit l) ≡ None → Answerable m (Limit l)
  call_limit m l e =
      ⊎_elim
      (λ (h : ltb (allowance (with_limit m l)) (sets_live m) ≡ true).
      record { after = _; answer = _; is = limited l _ refl e refl (beyond (ltb-true (allowance (with_limit m l)) (sets_live m) h) refl refl) })
      (λ (h : ltb (allowance (with_limit m l)) (sets_live m) ≡ false).
      record { after = _; answer = _; is = limited l _ refl e refl (within (ltb-false (allowance (with_limit m l)) (sets_live m) h) refl refl) })
      (cases_Bool (ltb (allowance (with_limit m l)) (sets_live m)))

  answerable : (m : Memory States) (c : Request Sym) (cs : List (Request Sym)) → Sound M m → Fitting M (c ∷ cs) → Answerable m c × Fitting M cs
  answerable m (Search q) cs ok fits =
      let (f, g) = fits_query q cs fits in
      let w = walkable m (reads M q) ok f in
      (unless_refused m (Search q) (λ e. record { after = w.after; answer = _; is = searched q w.counts refl e refl w.walk }), g)
  answerable m (Limit l) cs ok fits = (unless_refused m (Limit l) (call_limit m l), fits)
  answerable m Clear cs ok fits = (record { after = _; answer = _; is = cleared _ refl refl refl refl }, fits)

  series : (m : Memory States) (cs : List (Request Sym)) → Sound M m → Fitting M cs → (rs : List Answer) × ((n : Memory States) × Series M m cs rs n)
  series m [] ok fits = ([], (m, refl))
  series m (c ∷ cs) ok fits =
      let (i, g) = answerable m c cs ok fits in
      let (rs, (n, s)) = series i.after cs (calling M law m c i.after i.answer ok i.is).sound g in
      (i.answer ∷ rs, (n, (i.after, (i.is, s))))

  pub possible : Possible M
  possible places capacity cs few some fits = series (opened places capacity) cs (sound_empty M (opened places capacity) few some (omega arith)) fits
