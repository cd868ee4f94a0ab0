-- At an allowance of one the policy has no choice: the reads alone decide how they are counted.
use Rattle.std.proofs.Common.{◌≡◌, ℕ, ◌+◌, ◌<◌, ◌≤◌, Bool, true, false, cond, ltb, ◌⊎◌, List, [], ◌∷◌, length, Some, None, Option, sym, refl, ap, ◌∙◌, subst, inl, inr, ⊎_elim, arith}
use mathlib.Core.Path.{fun_ext}
use Rattle.std.proofs.lemmas.Bool.{cases_Bool, both_ways, lt-ltb, le-ltb}
use Rattle.memory.specs.Steps.{Map, nothing, size}
use Rattle.memory.proofs.Sizes.{size_nothing}
use Rattle.theory.specs.Reads.{Read, State, source, target, Step, step}
use Rattle.law.specs.Subject.{Subject, Proper}
use Rattle.law.specs.Memory.{Memory, taken, held_places, sets_live, allowance, without_places, Seated, already, room, made, nowhere, Noted, spare, full, with_steps, Sound}
use Rattle.law.specs.Reading.{Counts, zeros, both, OneRead, known, built, plain, Walk}
use Rattle.law.specs.Met.{same_state, same_step, among}
use Rattle.law.proofs.Tally.{tally_none, tally_one}
use Rattle.law.proofs.Maps.{some_not, some_same}
use Rattle.law.proofs.Seats.{not_taken, taken_some, seating, sound_drop, room_made, unseated}
use Rattle.law.proofs.Readings.{unknown_stays, cases_step, reading}
use Rattle.law.proofs.Once.{state_same, same_state_self}
use Rattle.law.proofs.Exact.{at, Carry, carry_put, carry_noted, unseen, unkeyed}

-- how a read is counted: whether the step is known, whether it leads to the set itself, whether the shelf has room;
-- `gone` went with the set before, `filled` would go from a full shelf
abbrev pub kind : Bool → Bool → Bool → (gone filled : ℕ) → Counts
kind true own fits gone filled = record { reads = 1; known = 1; built = 0; plain = 0; dropped = gone }
kind false true true gone filled = record { reads = 1; known = 0; built = 1; plain = 0; dropped = gone }
kind false true false gone filled = record { reads = 1; known = 0; built = 1; plain = 0; dropped = gone + filled }
kind false false fits gone filled = record { reads = 1; known = 0; built = 0; plain = 1; dropped = gone }

abbrev pub kept_keys : {States : Type 0} → Bool → Bool → Bool → Step States → List (Step States) → List (Step States)
kept_keys true own fits k keys = keys
kept_keys false true true k keys = k ∷ keys
kept_keys false true false k keys = k ∷ []
kept_keys false false fits k keys = keys

module _ {Sym States : Type 0} (M : Subject Sym States) where
  -- what is live, known and gone once s is seated
  abbrev pub set_now : State States → List (State States) → List (State States)
  set_now s seen = cond (among (same_state M) s seen) seen (s ∷ [])

  abbrev pub keys_now : State States → List (State States) → List (Step States) → List (Step States)
  keys_now s seen keys = cond (among (same_state M) s seen) keys []

  abbrev pub gone_now : State States → List (State States) → List (Step States) → ℕ
  gone_now s seen keys = cond (among (same_state M) s seen) 0 (length keys)

  abbrev is_known : Read Sym States → List (Step States) → Bool
  is_known x keys = among (same_step M) (step M.class_of x) keys

  abbrev is_own : Read Sym States → Bool
  is_own x = same_state M (target M.machine x) (source x)

  abbrev pub counts_alone : ℕ → Read Sym States → List (State States) → List (Step States) → Counts
  counts_alone capacity x seen keys =
      kind (is_known x (keys_now (source x) seen keys)) (is_own x) (ltb (length (keys_now (source x) seen keys)) capacity) (gone_now (source x) seen keys) (length (keys_now (source x) seen keys))

  abbrev pub keys_alone : ℕ → Read Sym States → List (State States) → List (Step States) → List (Step States)
  keys_alone capacity x seen keys =
      kept_keys (is_known x (keys_now (source x) seen keys)) (is_own x) (ltb (length (keys_now (source x) seen keys)) capacity) (step M.class_of x) (keys_now (source x) seen keys)

  -- the counts of a row of reads
  abbrev pub walk_alone : ℕ → List (State States) → List (Step States) → List (Read Sym States) → Counts
  walk_alone capacity seen keys [] = zeros
  walk_alone capacity seen keys (x ∷ xs) = both (counts_alone capacity x seen keys) (walk_alone capacity (set_now (source x) seen) (keys_alone capacity x seen keys) xs)

  -- nothing is live, so nothing is known
  carry_none : (m : Memory States) → Sound M m → sets_live m ≡ 0 → Carry M m [] []
  carry_none m ok none =
      let dead : (p : ℕ) (s : State States) → m.live p ≡ Some s → ⊥ = λ p s e. both_ways true (sym (ap (λ o. taken o) e) ∙ tally_none (held_places m) 64 none p (omega (arith, ok.low p s e, ok.few))) refl in
      let unknown : m.known ≡ nothing = fun_ext (λ p. fun_ext (λ c. ⊎_elim (λ (h : m.known p c ≡ None). h) (λ (h : (t : ℕ) × (m.known p c ≡ Some t)). absurd (dead p _ (ok.joins p c h.0 h.1).here)) (cases_step (m.known p c)))) in
      record {
        lives = λ p s e. absurd (dead p s e);
        seats = λ s e. absurd (both_ways false refl e);
        many = none;
        knows = λ p s c t e f. absurd (dead p s e);
        notes = λ s c e. absurd (both_ways false refl e);
        sized = ap (λ (f : Map). size m.places f) unknown ∙ size_nothing m.places;
      }

  few_one : {A : Type 0} (xs : List A) → length xs ≤ 0 → xs ≡ []
  few_one [] h = refl
  few_one (x ∷ xs) h = absurd (omega arith)

  module _ (law : Proper M) where
    -- a set is seated, nothing held
    record Source (m n : Memory States) (s : State States) (r : Option ℕ) (gone : ℕ) (seen : List (State States)) (keys : List (Step States)) : Type 0 where
      pub gone_is : gone ≡ gone_now s seen keys
      pub seated : r ≡ None → ⊥
      pub carry : Carry M n (set_now s seen) (keys_now s seen keys)

    source_new : (m n : Memory States) (s : State States) (r : Option ℕ) (p gone : ℕ) (seen : List (State States)) (keys : List (Step States)) → among (same_state M) s seen ≡ false → r ≡ Some p → gone ≡ length keys → Carry M n (s ∷ []) [] → Source m n s r gone seen keys
    source_new m n s r p gone seen keys new at z c =
        let P : Bool → Type 0 = λ b. Carry M n (cond b seen (s ∷ [])) (cond b keys []) in
        record {
          gone_is = z ∙ sym (ap (λ b. cond b 0 (length keys)) new);
          seated = λ h. some_not p (sym h ∙ at);
          carry = subst P (sym new) c;
        }

    alone_source : (m : Memory States) (s : State States) (n : Memory States) (r : Option ℕ) (gone : ℕ) (seen : List (State States)) (keys : List (Step States)) → Sound M m → allowance m ≡ 1 → Carry M m seen keys → Seated m s None n r gone → Source m n s r gone seen keys
    alone_source m s n r gone seen keys ok one c (already p e at same z) =
        let there : among (same_state M) s seen ≡ true = c.lives p s e in
        let P : Bool → Type 0 = λ b. Carry M m (cond b seen (s ∷ [])) (cond b keys []) in
        let Q : Memory States → Type 0 = λ j. Carry M j (set_now s seen) (keys_now s seen keys) in
        record {
          gone_is = z ∙ sym (ap (λ b. cond b 0 (length keys)) there);
          seated = λ h. some_not p (sym h ∙ at);
          carry = subst Q (sym same) (subst P (sym there) c);
        }
    alone_source m s n r gone seen keys ok one c (room p out below free at same z) =
        let none : sets_live m ≡ 0 = omega arith in
        let empty = carry_none m ok none in
        let Q : Memory States → Type 0 = λ j. Carry M j (s ∷ []) [] in
        source_new m n s r p gone seen keys (unseen M m seen keys s c out) at (omega (arith, empty.sized, c.sized))
        (subst Q (sym same) (carry_put M law m p s [] [] ok free.low (not_taken (m.live p) free.free) empty))
    alone_source m s n r gone seen keys ok one c (made x p out above ch free at same z) =
        let ok' : Sound M (without_places m x) = sound_drop M m x ok (omega arith) in
        let none : sets_live (without_places m x) ≡ 0 = omega (arith, room_made M m x None ok ch, ok.allowed) in
        let empty = carry_none (without_places m x) ok' none in
        let Q : Memory States → Type 0 = λ j. Carry M j (s ∷ []) [] in
        source_new m n s r p gone seen keys (unseen M m seen keys s c out) at (omega (arith, empty.sized, c.sized))
        (subst Q (sym same) (carry_put M law (without_places m x) p s [] [] ok' free.low (not_taken ((without_places m x).live p) free.free) empty))
    alone_source m s n r gone seen keys ok one c (nowhere out above nay at same z) =
        absurd (omega (arith, unseated M m ok nay))

    -- the next set is seated while the first is held
    data Target (h n : Memory States) (t : State States) (r : Option ℕ) (gone : ℕ) (own : Bool) : Type 0 where
      itself : own ≡ true → (q : ℕ) → r ≡ Some q → h.live q ≡ Some t → n ≡ h → gone ≡ 0 → Target h n t r gone own
      another : own ≡ false → r ≡ None → n ≡ h → gone ≡ 0 → Target h n t r gone own

    -- the one live place
    single : (h : Memory States) (s : State States) (p k : ℕ) → Sound M h → allowance h ≡ 1 → h.live p ≡ Some s → taken (h.live k) ≡ true → k ≡ p
    single h s p k ok one here t =
        let (u, e) = taken_some (h.live k) t in
        tally_one (held_places h) 64 p k (omega (arith, ok.allowed)) (omega (arith, ok.low p s here, ok.few)) (omega (arith, ok.low k u e, ok.few)) (ap taken here) t

    alone_target : (h : Memory States) (s t : State States) (p : ℕ) (n : Memory States) (r : Option ℕ) (gone : ℕ) → Sound M h → allowance h ≡ 1 → h.live p ≡ Some s → Seated h t (Some p) n r gone → Target h n t r gone (same_state M t s)
    alone_target h s t p n r gone ok one here (already q e at same z) =
        let there : q ≡ p = single h s p q ok one here (ap taken e) in
        let ts : t ≡ s = some_same t s (sym e ∙ ap h.live there ∙ here) in
        itself (ap (same_state M t) (sym ts) ∙ same_state_self M law t) q at e same z
    alone_target h s t p n r gone ok one here (room q out below free at same z) =
        absurd (both_ways true (sym (ap taken here) ∙ tally_none (held_places h) 64 (omega arith) p (omega (arith, ok.low p s here, ok.few))) refl)
    alone_target h s t p n r gone ok one here (made x q out above ch free at same z) =
        let k = ch.some.0 in
        let may = ch.within k ch.some.1 in
        absurd (may.1 (ap Some (sym (single h s p k ok one here (sym (ok.heard k) ∙ may.0)))))
    alone_target h s t p n r gone ok one here (nowhere out above nay at same z) =
        another
        (⊎_elim
        (λ (e : same_state M t s ≡ true). absurd (out p (here ∙ ap Some (sym (state_same M law t s e)))))
        (λ (e : same_state M t s ≡ false). e)
        (cases_Bool (same_state M t s)))
        at same z

    -- a step is noted
    data Noting (n : Memory States) (gone : ℕ) (seen : List (State States)) (k : Step States) (keys : List (Step States)) (fits : Bool) : Type 0 where
      added : fits ≡ true → gone ≡ 0 → Carry M n seen (k ∷ keys) → Noting n gone seen k keys fits
      anew : fits ≡ false → gone ≡ length keys → Carry M n seen (k ∷ []) → Noting n gone seen k keys fits

    carry_bare : (m : Memory States) (seen : List (State States)) (keys : List (Step States)) → Carry M m seen keys → Carry M (with_steps m nothing) seen []
    carry_bare m seen keys c =
        record {
          lives = c.lives;
          seats = c.seats;
          many = c.many;
          knows = λ p s d t e f. absurd (some_not t f);
          notes = λ s d e. absurd (both_ways false refl e);
          sized = size_nothing m.places;
        }

    alone_note : (m : Memory States) (s : State States) (p c t : ℕ) (n : Memory States) (gone : ℕ) (seen : List (State States)) (keys : List (Step States)) → Sound M m → m.live p ≡ Some s → c < 256 → m.known p c ≡ None → Carry M m seen keys → Noted m p c t n gone → Noting n gone seen (at s c) keys (ltb (length keys) m.capacity)
    alone_note m s p c t n gone seen keys ok here small free k (spare few same z) =
        let P : Memory States → Type 0 = λ j. Carry M j seen (at s c ∷ keys) in
        added (lt-ltb (length keys) m.capacity (omega (arith, k.sized))) z
        (subst P (sym same) (carry_noted M law m s p c t seen keys (ok.low p s here) here small free k))
    alone_note m s p c t n gone seen keys ok here small free k (full many same z) =
        let P : Memory States → Type 0 = λ j. Carry M j seen (at s c ∷ []) in
        anew (le-ltb (length keys) m.capacity (omega (arith, k.sized))) (z ∙ k.sized)
        (subst P (sym same) (carry_noted M law (with_steps m nothing) s p c t seen [] (ok.low p s here) here small refl (carry_bare m seen keys k)))

    -- one read
    record Went (n : Memory States) (k : Counts) (seen : List (State States)) (x : Read Sym States) (keys : List (Step States)) (gone : ℕ) (in-keys own fits : Bool) : Type 0 where
      pub counts : k ≡ kind in-keys own fits gone (length keys)
      pub carry : Carry M n seen (kept_keys in-keys own fits (step M.class_of x) keys)

    went_built : (n : Memory States) (k : Counts) (seen : List (State States)) (x : Read Sym States) (keys : List (Step States)) (g g' g'' gone : ℕ) (in-keys own fits : Bool) → in-keys ≡ false → own ≡ true → g ≡ gone → g' ≡ 0 → Noting n g'' seen (step M.class_of x) keys fits → k ≡ record { reads = 1; known = 0; built = 1; plain = 0; dropped = g + g' + g'' } → Went n k seen x keys gone in-keys own fits
    went_built n k seen x keys g g' g'' gone in-keys own fits un mine e e' (added fit z c) is =
        let dropped : g + g' + g'' ≡ gone = omega arith in
        let P : Bool → Type 0 = λ b. Went n k seen x keys gone b own fits in
        let Q : Bool → Type 0 = λ b. Went n k seen x keys gone false b fits in
        let R : Bool → Type 0 = λ b. Went n k seen x keys gone false true b in
        subst P (sym un) (subst Q (sym mine) (subst R (sym fit)
        (record { counts = is ∙ ap (λ d. kind false true true d (length keys)) dropped; carry = c })))
    went_built n k seen x keys g g' g'' gone in-keys own fits un mine e e' (anew fit z c) is =
        let dropped : g + g' + g'' ≡ gone + length keys = omega arith in
        let P : Bool → Type 0 = λ b. Went n k seen x keys gone b own fits in
        let Q : Bool → Type 0 = λ b. Went n k seen x keys gone false b fits in
        let R : Bool → Type 0 = λ b. Went n k seen x keys gone false true b in
        subst P (sym un) (subst Q (sym mine) (subst R (sym fit)
        (record { counts = is ∙ ap (λ d. kind false true true d (length keys)) dropped; carry = c })))

    went_plain : (n : Memory States) (k : Counts) (seen : List (State States)) (x : Read Sym States) (keys : List (Step States)) (g g' gone : ℕ) (in-keys own fits : Bool) → in-keys ≡ false → own ≡ false → g ≡ gone → g' ≡ 0 → Carry M n seen keys → k ≡ record { reads = 1; known = 0; built = 0; plain = 1; dropped = g + g' } → Went n k seen x keys gone in-keys own fits
    went_plain n k seen x keys g g' gone in-keys own fits un other e e' c is =
        let dropped : g + g' ≡ gone = omega arith in
        let P : Bool → Type 0 = λ b. Went n k seen x keys gone b own fits in
        let Q : Bool → Type 0 = λ b. Went n k seen x keys gone false b fits in
        subst P (sym un) (subst Q (sym other) (record { counts = is ∙ ap (λ d. kind false false fits d (length keys)) dropped; carry = c }))

    -- a read that is built, by what its target is
    built_by : (h j : Memory States) (x : Read Sym States) (p t : ℕ) (n : Memory States) (g g' g'' gone : ℕ) (k : Counts) (seen : List (State States)) (keys : List (Step States)) (capacity : ℕ) → Sound M j → j.live p ≡ Some (source x) → M.class_of x.symbol < 256 → j.known p (M.class_of x.symbol) ≡ None → j.capacity ≡ capacity → is_known x keys ≡ false → g ≡ gone → Carry M h seen keys → Target h j (target M.machine x) (Some t) g' (is_own x) → Noted j p (M.class_of x.symbol) t n g'' → k ≡ record { reads = 1; known = 0; built = 1; plain = 0; dropped = g + g' + g'' } → Went n k seen x keys gone (is_known x keys) (is_own x) (ltb (length keys) capacity)
    built_by h j x p t n g g' g'' gone k seen keys capacity ok here small free cap un e c (itself own q at live same z) w is =
        let P : Memory States → Type 0 = λ y. Carry M y seen keys in
        let F : ℕ → Type 0 = λ y. Noting n g'' seen (step M.class_of x) keys (ltb (length keys) y) in
        went_built n k seen x keys g g' g'' gone (is_known x keys) (is_own x) (ltb (length keys) capacity) un own e z
        (subst F cap (alone_note j (source x) p (M.class_of x.symbol) t n g'' seen keys ok here small free (subst P (sym same) c) w)) is
    built_by h j x p t n g g' g'' gone k seen keys capacity ok here small free cap un e c (another own at same z) w is = absurd (some_not t (sym at))

    plain_by : (h n : Memory States) (x : Read Sym States) (p : ℕ) (r' : Option ℕ) (g g' gone : ℕ) (k : Counts) (seen : List (State States)) (keys : List (Step States)) (fits : Bool) → is_known x keys ≡ false → g ≡ gone → Carry M h seen keys → Target h n (target M.machine x) r' g' (is_own x) → (Some p ≡ None) ⊎ (r' ≡ None) → k ≡ record { reads = 1; known = 0; built = 0; plain = 1; dropped = g + g' } → Went n k seen x keys gone (is_known x keys) (is_own x) fits
    plain_by h n x p r' g g' gone k seen keys fits un e c (itself own q at live same z) (inl lost) is = absurd (some_not p (sym lost))
    plain_by h n x p r' g g' gone k seen keys fits un e c (itself own q at live same z) (inr lost) is = absurd (some_not q (sym lost ∙ at))
    plain_by h n x p r' g g' gone k seen keys fits un e c (another own at same z) lost is =
        let P : Memory States → Type 0 = λ y. Carry M y seen keys in
        went_plain n k seen x keys g g' gone (is_known x keys) (is_own x) fits un own e z (subst P (sym same) c) is

    alone_read : (m : Memory States) (x : Read Sym States) (n : Memory States) (k : Counts) (seen : List (State States)) (keys : List (Step States)) → Sound M m → allowance m ≡ 1 → Carry M m seen keys → OneRead M m x n k → Went n k (set_now (source x) seen) x (keys_now (source x) seen keys) (gone_now (source x) seen keys) (is_known x (keys_now (source x) seen keys)) (is_own x) (ltb (length (keys_now (source x) seen keys)) m.capacity)
    alone_read m x n k seen keys ok one c (known p t g fit s e z) =
        let a = alone_source m (source x) n (Some p) g seen keys ok one c s in
        let i = seating M m (source x) None n (Some p) g ok s in
        let P : Bool → Type 0 = λ b. Went n k (set_now (source x) seen) x (keys_now (source x) seen keys) (gone_now (source x) seen keys) b (is_own x) (ltb (length (keys_now (source x) seen keys)) m.capacity) in
        subst P (sym (a.carry.knows p (source x) (M.class_of x.symbol) t (i.here p refl) e))
        (record { counts = z ∙ ap (λ d. kind true true true d 0) a.gone_is; carry = a.carry })
    alone_read m x n k seen keys ok one c (built h j p t g g' g'' fit s e s' w z) =
        let a = alone_source m (source x) h (Some p) g seen keys ok one c s in
        let i = seating M m (source x) None h (Some p) g ok s in
        let i' = seating M h (target M.machine x) (Some p) j (Some t) g' i.sound s' in
        let one' : allowance h ≡ 1 = omega (arith, i.limit, i.places) in
        let b = alone_target h (source x) (target M.machine x) p j (Some t) g' i.sound one' (i.here p refl) s' in
        built_by h j x p t n g g' g'' (gone_now (source x) seen keys) k (set_now (source x) seen) (keys_now (source x) seen keys) m.capacity
        i'.sound (i'.stays p (source x) refl (i.here p refl)) (law.small x.symbol fit) (unknown_stays h j p (M.class_of x.symbol) i'.fewer e) (i'.capacity ∙ i.capacity)
        (unkeyed M law h (source x) p (M.class_of x.symbol) (set_now (source x) seen) (keys_now (source x) seen keys) i.sound (i.here p refl) e a.carry) a.gone_is a.carry b w z
    alone_read m x n k seen keys ok one c (plain h None r' g g' fit s u s' lost z) =
        absurd ((alone_source m (source x) h None g seen keys ok one c s).seated refl)
    alone_read m x n k seen keys ok one c (plain h (Some p) r' g g' fit s u s' lost z) =
        let a = alone_source m (source x) h (Some p) g seen keys ok one c s in
        let i = seating M m (source x) None h (Some p) g ok s in
        let one' : allowance h ≡ 1 = omega (arith, i.limit, i.places) in
        let b = alone_target h (source x) (target M.machine x) p n r' g' i.sound one' (i.here p refl) s' in
        plain_by h n x p r' g g' (gone_now (source x) seen keys) k (set_now (source x) seen) (keys_now (source x) seen keys) (ltb (length (keys_now (source x) seen keys)) m.capacity)
        (unkeyed M law h (source x) p (M.class_of x.symbol) (set_now (source x) seen) (keys_now (source x) seen keys) i.sound (i.here p refl) u a.carry) a.gone_is a.carry b lost z

    -- a row of reads
    pub alone_walk : (m : Memory States) (xs : List (Read Sym States)) (n : Memory States) (k : Counts) (seen : List (State States)) (keys : List (Step States)) (capacity : ℕ) → Sound M m → allowance m ≡ 1 → m.capacity ≡ capacity → Carry M m seen keys → Walk M m xs n k → k ≡ walk_alone capacity seen keys xs
    alone_walk m [] n k seen keys capacity ok one cap c (e, z) = z
    alone_walk m (x ∷ xs) n k seen keys capacity ok one cap c (j, (a, (b, (s, w, z)))) =
        let i = reading M law m x j a ok s in
        let P : ℕ → Type 0 = λ y. Went j a (set_now (source x) seen) x (keys_now (source x) seen keys) (gone_now (source x) seen keys) (is_known x (keys_now (source x) seen keys)) (is_own x) (ltb (length (keys_now (source x) seen keys)) y) in
        let r = subst P cap (alone_read m x j a seen keys ok one c s) in
        let one' : allowance j ≡ 1 = omega (arith, i.limit, i.places) in
        let t = alone_walk j xs n b (set_now (source x) seen) (keys_alone capacity x seen keys) capacity i.sound one' (i.capacity ∙ cap) r.carry w in
        z ∙ ap (λ y. both y b) r.counts ∙ ap (λ y. both (counts_alone capacity x seen keys) y) t
