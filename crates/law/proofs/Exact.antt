-- With room for all that is met, nothing is dropped, and the shelf has exactly the steps met.
use Rattle.std.proofs.Common.{◌≡◌, ℕ, ◌+◌, ◌<◌, ◌≤◌, true, false, List, [], ◌∷◌, ◌++◌, length, Some, None, Option, sym, refl, ap, ◌∙◌, subst, ⊎_elim, arith}
use Rattle.std.proofs.lemmas.Bool.{cases_Bool, both_ways}
use Rattle.memory.specs.Steps.{noted}
use Rattle.memory.proofs.Sizes.{size_noted, noted_other, size_nothing}
use Rattle.theory.specs.Reads.{Read, State, source, target, Step, step}
use Rattle.law.specs.Subject.{Subject, leads, Proper}
use Rattle.law.specs.Memory.{Memory, sets_live, allowance, steps_known, Absent, with_set, Seated, already, room, made, nowhere, Noted, spare, full, with_steps, opened, Sound}
use Rattle.law.specs.Reading.{Counts, OneRead, known, built, plain, Walk}
use Rattle.law.specs.Met.{same_state, same_step, among, new, sets_met, steps_met}
use Rattle.law.proofs.Tally.{tally_zero}
use Rattle.law.proofs.Maps.{some_not, some_same, Other, noted_cases, noted_here}
use Rattle.law.proofs.Seats.{not_taken, seating, put_here, put_stays, put_cases, put_count}
use Rattle.law.proofs.Readings.{unknown_stays, reading}
use Rattle.law.proofs.Once.{state_of_lem, state_same, same_state_self, step_same, same_step_self, add, add_there, add_new, add_more, among_later, among_here, among_cases, new_add}

abbrev pub at : {States : Type 0} → State States → ℕ → Step States
at s c = record { from = s; class = c }

-- a place where a set is live, with a known step from there
pub record NotedAt {States : Type 0} (m : Memory States) (s : State States) (c : ℕ) : Type 0 where
  pub place : ℕ
  pub to : ℕ
  pub here : m.live place ≡ Some s
  pub step : m.known place c ≡ Some to

module _ {Sym States : Type 0} (M : Subject Sym States) where
  -- live are exactly the sets seen, known exactly the steps in keys
  pub record Carry (m : Memory States) (seen : List (State States)) (keys : List (Step States)) : Type 0 where
    pub lives : (p : ℕ) (s : State States) → m.live p ≡ Some s → among (same_state M) s seen ≡ true
    pub seats : (s : State States) → among (same_state M) s seen ≡ true → (p : ℕ) × (m.live p ≡ Some s)
    pub many : sets_live m ≡ length seen
    pub knows : (p : ℕ) (s : State States) (c t : ℕ) → m.live p ≡ Some s → m.known p c ≡ Some t → among (same_step M) (at s c) keys ≡ true
    pub notes : (s : State States) (c : ℕ) → among (same_step M) (at s c) keys ≡ true → NotedAt m s c
    pub sized : steps_known m ≡ length keys

  pub carry_opened : (places capacity : ℕ) → Carry (opened places capacity) [] []
  carry_opened places capacity =
      record {
        lives = λ p s e. absurd (some_not s e);
        seats = λ s e. absurd (both_ways false refl e);
        many = tally_zero (λ k. false) 64 (λ k h. both_ways false refl h);
        knows = λ p s c t e f. absurd (some_not s e);
        notes = λ s c e. absurd (both_ways false refl e);
        sized = size_nothing places;
      }

  -- a set that is live nowhere was not seen
  pub unseen : (m : Memory States) (seen : List (State States)) (keys : List (Step States)) (s : State States) → Carry m seen keys → Absent m s → among (same_state M) s seen ≡ false
  unseen m seen keys s c out =
      ⊎_elim
      (λ (h : among (same_state M) s seen ≡ true). let (p, e) = c.seats s h in absurd (out p e))
      (λ (h : among (same_state M) s seen ≡ false). h)
      (cases_Bool (among (same_state M) s seen))

  -- what is seen after a row of reads
  abbrev pub seen_read : Read Sym States → List (State States) → List (State States)
  seen_read x seen = add (same_state M) (target M.machine x) (add (same_state M) (source x) seen)

  abbrev pub seen_after : List (State States) → List (Read Sym States) → List (State States)
  seen_after seen [] = seen
  seen_after seen (x ∷ xs) = seen_after (seen_read x seen) xs

  abbrev pub keys_after : List (Step States) → List (Read Sym States) → List (Step States)
  keys_after keys [] = keys
  keys_after keys (x ∷ xs) = keys_after (add (same_step M) (step M.class_of x) keys) xs

  -- how many sets, and how many steps, are seen and new together
  abbrev pub sets_in_all : List (State States) → List (Read Sym States) → ℕ
  sets_in_all seen xs = length seen + new (same_state M) seen (sets_met M xs)

  abbrev pub keys_in_all : List (Step States) → List (Read Sym States) → ℕ
  keys_in_all keys xs = length keys + new (same_step M) keys (steps_met M xs)

  pub sets_next : (x : Read Sym States) (xs : List (Read Sym States)) (seen : List (State States)) → sets_in_all seen (x ∷ xs) ≡ sets_in_all (seen_read x seen) xs
  sets_next x xs seen =
      new_add (same_state M) (source x) seen (target M.machine x ∷ sets_met M xs) ∙ new_add (same_state M) (target M.machine x) (add (same_state M) (source x) seen) (sets_met M xs)

  pub keys_next : (x : Read Sym States) (xs : List (Read Sym States)) (keys : List (Step States)) → keys_in_all keys (x ∷ xs) ≡ keys_in_all (add (same_step M) (step M.class_of x) keys) xs
  keys_next x xs keys = new_add (same_step M) (step M.class_of x) keys (steps_met M xs)

  pub sets_append : (xs ys : List (Read Sym States)) (seen : List (State States)) → sets_in_all seen (xs ++ ys) ≡ sets_in_all (seen_after seen xs) ys
  sets_append [] ys seen = refl
  sets_append (x ∷ xs) ys seen = sets_next x (xs ++ ys) seen ∙ sets_append xs ys (seen_read x seen)

  pub keys_append : (xs ys : List (Read Sym States)) (keys : List (Step States)) → keys_in_all keys (xs ++ ys) ≡ keys_in_all (keys_after keys xs) ys
  keys_append [] ys keys = refl
  keys_append (x ∷ xs) ys keys = keys_next x (xs ++ ys) keys ∙ keys_append xs ys (add (same_step M) (step M.class_of x) keys)

  pub seen_append : (xs ys : List (Read Sym States)) (seen : List (State States)) → seen_after seen (xs ++ ys) ≡ seen_after (seen_after seen xs) ys
  seen_append [] ys seen = refl
  seen_append (x ∷ xs) ys seen = seen_append xs ys (seen_read x seen)

  pub key_append : (xs ys : List (Read Sym States)) (keys : List (Step States)) → keys_after keys (xs ++ ys) ≡ keys_after (keys_after keys xs) ys
  key_append [] ys keys = refl
  key_append (x ∷ xs) ys keys = key_append xs ys (add (same_step M) (step M.class_of x) keys)

  pub sets_front : (xs ys : List (Read Sym States)) (seen : List (State States)) → sets_in_all seen xs ≤ sets_in_all seen (xs ++ ys)
  sets_front [] ys seen = omega arith
  sets_front (x ∷ xs) ys seen = omega (arith, sets_next x xs seen, sets_next x (xs ++ ys) seen, sets_front xs ys (seen_read x seen))

  pub keys_front : (xs ys : List (Read Sym States)) (keys : List (Step States)) → keys_in_all keys xs ≤ keys_in_all keys (xs ++ ys)
  keys_front [] ys keys = omega arith
  keys_front (x ∷ xs) ys keys = omega (arith, keys_next x xs keys, keys_next x (xs ++ ys) keys, keys_front xs ys (add (same_step M) (step M.class_of x) keys))

  pub keys_end : (xs : List (Read Sym States)) (keys : List (Step States)) → keys_in_all keys xs ≡ length (keys_after keys xs)
  keys_end [] keys = omega arith
  keys_end (x ∷ xs) keys = keys_next x xs keys ∙ keys_end xs (add (same_step M) (step M.class_of x) keys)

  -- the target of a known step is live
  pub known_target : (n : Memory States) (x : Read Sym States) (p t : ℕ) → Sound M n → M.fit x.symbol ≡ true → n.live p ≡ Some (source x) → n.known p (M.class_of x.symbol) ≡ Some t → n.live t ≡ Some (target M.machine x)
  known_target n x p t ok fit here e =
      let j = ok.joins p (M.class_of x.symbol) t e in
      let same : source x ≡ record { direction = j.direction; set = j.from } = some_same _ _ (sym here ∙ j.here) in
      let f : x.set ≡ j.from = ap (λ (s : State States). s.set) same in
      let b : x.direction ≡ j.direction = ap (λ (s : State States). s.direction) same in
      let to : leads M x.direction x.set x.symbol ≡ j.to =
      ap (λ y. leads M x.direction y x.symbol) f ∙ ap (λ y. leads M y j.from x.symbol) b ∙ j.follows x.symbol fit refl in
      j.there ∙ ap Some (state_of_lem j.to (leads M x.direction x.set x.symbol) j.direction x.direction (sym to) (sym b))

  module _ (law : Proper M) where
    pub carry_put : (m : Memory States) (p : ℕ) (s : State States) (seen : List (State States)) (keys : List (Step States)) → Sound M m → p < 64 → m.live p ≡ None → Carry m seen keys → Carry (with_set m p s) (s ∷ seen) keys
    carry_put m p s seen keys ok l free c =
        record {
          lives = λ q x e.
              ⊎_elim
              (λ (h : (q ≡ p) × (x ≡ s)). among_here (same_state M) x s seen (ap (same_state M x) (sym h.1) ∙ same_state_self M law x))
              (λ (h : m.live q ≡ Some x). among_later (same_state M) x s seen (c.lives q x h))
              (put_cases m p s q x e);
          seats = λ x e.
              ⊎_elim
              (λ (h : same_state M x s ≡ true). (p, put_here m p s ∙ ap Some (sym (state_same M law x s h))))
              (λ (h : among (same_state M) x seen ≡ true). let (q, f) = c.seats x h in (q, put_stays m p s q x free f))
              (among_cases (same_state M) x s seen e);
          many = omega (arith, put_count m p s l free, c.many);
          knows = λ q x d t e f.
              let j = ok.joins q d t f in
              ⊎_elim
              (λ (h : (q ≡ p) × (x ≡ s)). absurd (some_not _ (sym free ∙ ap m.live (sym h.0) ∙ j.here)))
              (λ (h : m.live q ≡ Some x). c.knows q x d t h f)
              (put_cases m p s q x e);
          notes = λ x d e. let w = c.notes x d e in record { place = w.place; to = w.to; here = put_stays m p s w.place x free w.here; step = w.step };
          sized = c.sized;
        }

    -- what a seating does where there is room for what is seen
    record Kept (n : Memory States) (r : Option ℕ) (gone : ℕ) (seen : List (State States)) (keys : List (Step States)) : Type 0 where
      pub none : gone ≡ 0
      pub seated : r ≡ None → ⊥
      pub carry : Carry n seen keys

    kept : (m : Memory States) (s : State States) (held : Option ℕ) (n : Memory States) (r : Option ℕ) (gone : ℕ) (seen : List (State States)) (keys : List (Step States)) → Sound M m → Carry m seen keys → length (add (same_state M) s seen) ≤ allowance m → Seated m s held n r gone → Kept n r gone (add (same_state M) s seen) keys
    kept m s held n r gone seen keys ok c fits (already p e found same z) =
        let P : Memory States → Type 0 = λ j. Carry j (add (same_state M) s seen) keys in
        let Q : List (State States) → Type 0 = λ xs. Carry m xs keys in
        record { none = z; seated = λ h. some_not p (sym h ∙ found); carry = subst P (sym same) (subst Q (sym (add_there (same_state M) s seen (c.lives p s e))) c) }
    kept m s held n r gone seen keys ok c fits (room p out below free found same z) =
        let P : Memory States → Type 0 = λ j. Carry j (add (same_state M) s seen) keys in
        let Q : List (State States) → Type 0 = λ xs. Carry (with_set m p s) xs keys in
        let l : p < 64 = free.low in
        record { none = z; seated = λ h. some_not p (sym h ∙ found); carry = subst P (sym same) (subst Q (sym (add_new (same_state M) s seen (unseen m seen keys s c out))) (carry_put m p s seen keys ok l (not_taken (m.live p) free.free) c)) }
    kept m s held n r gone seen keys ok c fits (made x p out above ch free found same z) =
        absurd (omega (arith, c.many, ap length (add_new (same_state M) s seen (unseen m seen keys s c out))))
    kept m s held n r gone seen keys ok c fits (nowhere out above nay found same z) =
        absurd (omega (arith, c.many, ap length (add_new (same_state M) s seen (unseen m seen keys s c out))))

    -- a step noted where there is room
    pub carry_noted : (m : Memory States) (s : State States) (p c t : ℕ) (seen : List (State States)) (keys : List (Step States)) → p < m.places → m.live p ≡ Some s → c < 256 → m.known p c ≡ None → Carry m seen keys → Carry (with_steps m (noted m.known p c t)) seen (at s c ∷ keys)
    carry_noted m s p c t seen keys low here small free k =
        record {
          lives = k.lives;
          seats = k.seats;
          many = k.many;
          knows = λ q x d u e f.
              ⊎_elim
              (λ (h : (q ≡ p) × (d ≡ c) × (u ≡ t)).
              let xs : x ≡ s = some_same x s (sym e ∙ ap m.live h.0 ∙ here) in
              among_here (same_step M) (at x d) (at s c) keys (rw (xs, h.1) (same_step_self M law (at s c))))
              (λ (h : Other m.known p c q d u). among_later (same_step M) (at x d) (at s c) keys (k.knows q x d u e h.was))
              (noted_cases m.known p c t q d u f);
          notes = λ x d e.
              ⊎_elim
              (λ (h : same_step M (at x d) (at s c) ≡ true).
              let same : at x d ≡ at s c = step_same M law (at x d) (at s c) h in
              let xs : x ≡ s = ap (λ (y : Step States). y.from) same in
              let dc : d ≡ c = ap (λ (y : Step States). y.class) same in
              record { place = p; to = t; here = here ∙ ap Some (sym xs); step = ap (noted m.known p c t p) dc ∙ noted_here m.known p c t })
              (λ (h : among (same_step M) (at x d) keys ≡ true).
              let w = k.notes x d h in
              let ne : w.place ≡ p → d ≡ c → ⊥ = λ a b. some_not w.to (sym free ∙ ap (m.known p) (sym b) ∙ ap (λ y. m.known y d) (sym a) ∙ w.step) in
              record { place = w.place; to = w.to; here = w.here; step = sym (noted_other m.known p c t w.place d ne) ∙ w.step })
              (among_cases (same_step M) (at x d) (at s c) keys e);
          sized = omega (arith, size_noted m.places m.known p c t low small free, k.sized);
        }

    pub unkeyed : (m : Memory States) (s : State States) (p c : ℕ) (seen : List (State States)) (keys : List (Step States)) → Sound M m → m.live p ≡ Some s → m.known p c ≡ None → Carry m seen keys → among (same_step M) (at s c) keys ≡ false
    unkeyed m s p c seen keys ok here free k =
        ⊎_elim
        (λ (h : among (same_step M) (at s c) keys ≡ true).
        let w = k.notes s c h in
        let e : w.place ≡ p = ok.once w.place p s w.here here in
        absurd (some_not w.to (sym free ∙ ap (λ y. m.known y c) (sym e) ∙ w.step)))
        (λ (h : among (same_step M) (at s c) keys ≡ false). h)
        (cases_Bool (among (same_step M) (at s c) keys))

    carry_note : (m : Memory States) (s : State States) (p c t : ℕ) (n : Memory States) (gone : ℕ) (seen : List (State States)) (keys : List (Step States)) → Sound M m → m.live p ≡ Some s → c < 256 → m.known p c ≡ None → Carry m seen keys → length (add (same_step M) (at s c) keys) ≤ m.capacity → Noted m p c t n gone → (gone ≡ 0) × Carry n seen (add (same_step M) (at s c) keys)
    carry_note m s p c t n gone seen keys ok here small free k fits (spare few same z) =
        let P : Memory States → Type 0 = λ j. Carry j seen (add (same_step M) (at s c) keys) in
        let Q : List (Step States) → Type 0 = λ xs. Carry (with_steps m (noted m.known p c t)) seen xs in
        (z, subst P (sym same) (subst Q (sym (add_new (same_step M) (at s c) keys (unkeyed m s p c seen keys ok here free k))) (carry_noted m s p c t seen keys (ok.low p s here) here small free k)))
    carry_note m s p c t n gone seen keys ok here small free k fits (full many same z) =
        absurd (omega (arith, k.sized, ap length (add_new (same_step M) (at s c) keys (unkeyed m s p c seen keys ok here free k))))

    pub record Carried (n : Memory States) (k : Counts) (seen : List (State States)) (keys : List (Step States)) : Type 0 where
      pub none : k.dropped ≡ 0
      pub carry : Carry n seen keys

    carry_read : (m : Memory States) (x : Read Sym States) (n : Memory States) (k : Counts) (seen : List (State States)) (keys : List (Step States)) → Sound M m → Carry m seen keys → length (seen_read x seen) ≤ allowance m → length (add (same_step M) (step M.class_of x) keys) ≤ m.capacity → OneRead M m x n k → Carried n k (seen_read x seen) (add (same_step M) (step M.class_of x) keys)
    carry_read m x n k seen keys ok c fits spares (known p t g fit s e z) =
        let i = seating M m (source x) None n (Some p) g ok s in
        let few : length (add (same_state M) (source x) seen) ≤ allowance m = omega (arith, add_more (same_state M) (target M.machine x) (add (same_state M) (source x) seen)) in
        let w = kept m (source x) None n (Some p) g seen keys ok c few s in
        let there : n.live t ≡ Some (target M.machine x) = known_target n x p t i.sound fit (i.here p refl) e in
        let P : List (State States) → Type 0 = λ xs. Carry n xs (add (same_step M) (step M.class_of x) keys) in
        let Q : List (Step States) → Type 0 = λ ys. Carry n (add (same_state M) (source x) seen) ys in
        record {
          none = ap (λ (q : Counts). q.dropped) z ∙ w.none;
          carry = subst P (sym (add_there (same_state M) (target M.machine x) (add (same_state M) (source x) seen) (w.carry.lives t (target M.machine x) there)))
              (subst Q (sym (add_there (same_step M) (step M.class_of x) keys (w.carry.knows p (source x) (M.class_of x.symbol) t (i.here p refl) e))) w.carry);
        }
    carry_read m x n k seen keys ok c fits spares (built h j p t g g' g'' fit s e s' o z) =
        let i = seating M m (source x) None h (Some p) g ok s in
        let i' = seating M h (target M.machine x) (Some p) j (Some t) g' i.sound s' in
        let few : length (add (same_state M) (source x) seen) ≤ allowance m = omega (arith, add_more (same_state M) (target M.machine x) (add (same_state M) (source x) seen)) in
        let w = kept m (source x) None h (Some p) g seen keys ok c few s in
        let w' = kept h (target M.machine x) (Some p) j (Some t) g' (add (same_state M) (source x) seen) keys i.sound w.carry (omega (arith, i.limit, i.places)) s' in
        let here : j.live p ≡ Some (source x) = i'.stays p (source x) refl (i.here p refl) in
        let (gone, c') = carry_note j (source x) p (M.class_of x.symbol) t n g'' (seen_read x seen) keys i'.sound here (law.small x.symbol fit)
        (unknown_stays h j p (M.class_of x.symbol) i'.fewer e) w'.carry (omega (arith, i.capacity, i'.capacity)) o in
        record { none = ap (λ (q : Counts). q.dropped) z ∙ omega (arith, w.none, w'.none, gone); carry = c' }
    carry_read m x n k seen keys ok c fits spares (plain h r r' g g' fit s u s' lost z) =
        let i = seating M m (source x) None h r g ok s in
        let few : length (add (same_state M) (source x) seen) ≤ allowance m = omega (arith, add_more (same_state M) (target M.machine x) (add (same_state M) (source x) seen)) in
        let w = kept m (source x) None h r g seen keys ok c few s in
        let w' = kept h (target M.machine x) r n r' g' (add (same_state M) (source x) seen) keys i.sound w.carry (omega (arith, i.limit, i.places)) s' in
        absurd (⊎_elim w.seated w'.seated lost)

    pub carry_walk : (m : Memory States) (xs : List (Read Sym States)) (n : Memory States) (k : Counts) (seen : List (State States)) (keys : List (Step States)) → Sound M m → Carry m seen keys → sets_in_all seen xs ≤ allowance m → keys_in_all keys xs ≤ m.capacity → Walk M m xs n k → Carried n k (seen_after seen xs) (keys_after keys xs)
    carry_walk m [] n k seen keys ok c fits spares (e, z) =
        let P : Memory States → Type 0 = λ j. Carry j seen keys in
        record { none = ap (λ (q : Counts). q.dropped) z; carry = subst P (sym e) c }
    carry_walk m (x ∷ xs) n k seen keys ok c fits spares (j, (a, (b, (s, w, z)))) =
        let i = reading M law m x j a ok s in
        let d = carry_read m x j a seen keys ok c (omega (arith, sets_next x xs seen)) (omega (arith, keys_next x xs keys)) s in
        let d' = carry_walk j xs n b (seen_read x seen) (add (same_step M) (step M.class_of x) keys) i.sound d.carry (omega (arith, sets_next x xs seen, i.limit, i.places)) (omega (arith, keys_next x xs keys, i.capacity)) w in
        record { none = ap (λ (q : Counts). q.dropped) z ∙ omega (arith, d.none, d'.none); carry = d'.carry }
