-- The law of a series, and of any two.
use Rattle.std.proofs.Common.{◌≡◌, ℕ, ◌≤◌, min, List, [], ◌∷◌, ◌++◌, map, length, Some, None, sym, refl, ap, ◌∙◌, subst, zero-add, arith}
use Rattle.refusal.specs.declared.Refusal.{Refusal}
use Rattle.memory.proofs.Sizes.{size_nothing}
use Rattle.theory.specs.Reads.{Read, State, Step}
use Rattle.law.specs.Subject.{Subject, Proper}
use Rattle.law.specs.Memory.{Memory, allowance, with_limit, opened, Sound}
use Rattle.law.specs.Reading.{Counts}
use Rattle.law.specs.Calls.{Query, Request, Search, Limit, Clear, Answer, Dropped, refusal, reads, Limited, within, beyond, Answered, refused, searched, limited, cleared, Series}
use Rattle.law.specs.Met.{unless_refused, call_reads, all_reads, number_of_steps}
use Rattle.law.specs.Law.{counts, define, dropped, Uncleared, next_limit, least, EverySeries, AnyTwo, Law}
use Rattle.law.proofs.Possible.{possible}
use Rattle.law.proofs.Calling.{sound_empty, calling, going, cleared_last, idle}
use Rattle.law.proofs.Exact.{Carry, carry_opened, Carried, carry_walk, seen_after, keys_after, sets_in_all, keys_in_all, sets_append, keys_append, seen_append, key_append, sets_front, keys_front, keys_end}

module _ {Sym : Type 0} where
  -- the smallest allowance is no greater than the present one
  least_le : (places l : ℕ) (cs : List (Request Sym)) → least places l cs ≤ min l places
  least_le places l [] = omega arith
  least_le places l (c ∷ cs) = omega arith

  least_later : (places l : ℕ) (c : Request Sym) (cs : List (Request Sym)) → least places l (c ∷ cs) ≤ least places (next_limit l c) cs
  least_later places l c cs = omega arith

  uncleared_parts : (c : Request Sym) (cs : List (Request Sym)) → Uncleared (c ∷ cs) → Uncleared (c ∷ []) × Uncleared cs
  uncleared_parts (Search q) cs h = (tt, h)
  uncleared_parts (Limit l) cs h = (tt, h)
  uncleared_parts Clear cs h = elim h [ ]

module _ {Sym States : Type 0} (M : Subject Sym States) where
  pub carry_limit : (m : Memory States) (l : ℕ) (seen : List (State States)) (keys : List (Step States)) → Carry M m seen keys → Carry M (with_limit m l) seen keys
  carry_limit m l seen keys c =
      record {
        lives = c.lives;
        seats = c.seats;
        many = c.many;
        knows = c.knows;
        notes = λ s d e. let w = c.notes s d e in record { place = w.place; to = w.to; here = w.here; step = w.step };
        sized = c.sized;
      }

  reads_done : (q : Query Sym) → refusal (Search q) ≡ None → reads M q ≡ call_reads M (Search q)
  reads_done q e = sym (ap (λ o. unless_refused o (reads M q)) e)

  reads_refused : (c : Request Sym) (q : Refusal) → refusal c ≡ Some q → [] ≡ call_reads M c
  reads_refused (Search p) q e = sym (ap (λ o. unless_refused o (reads M p)) e)
  reads_refused (Limit l) q e = refl
  reads_refused Clear q e = refl

  module _ (law : Proper M) where
    -- a call for which there is room drops nothing
    abbrev Room : List (Read Sym States) → Memory States → Counts → List (State States) → List (Step States) → Type 0
    Room xs n k seen keys = Carried M law n k (seen_after M seen xs) (keys_after M keys xs)

    room_limit : (m : Memory States) (l : ℕ) (n : Memory States) (gone : ℕ) (seen : List (State States)) (keys : List (Step States)) → Carry M m seen keys → length seen ≤ min n.limit m.places → Limited m l n gone → Room [] n (counts (Dropped gone)) seen keys
    room_limit m l n gone seen keys c low (within few same z) =
        let P : Memory States → Type 0 = λ j. Carry M j seen keys in
        record { none = z; carry = subst P (sym same) (carry_limit m l seen keys c) }
    room_limit m l n gone seen keys c low (beyond many same z) =
        let lim = ap (λ (j : Memory States). j.limit) same in
        absurd (omega (arith, c.many, lim))

    room_call : (m : Memory States) (c : Request Sym) (n : Memory States) (a : Answer) (seen : List (State States)) (keys : List (Step States)) → Sound M m → Carry M m seen keys → Uncleared (c ∷ []) → length seen ≤ min n.limit m.places → sets_in_all M seen (call_reads M c) ≤ allowance m → keys_in_all M keys (call_reads M c) ≤ m.capacity → Answered M m c n a → Room (call_reads M c) n (counts a) seen keys
    room_call m c n a seen keys ok k u low fits spares (refused q e at same) =
        let P : Memory States → Type 0 = λ j. Carry M j seen keys in
        let Q : List (Read Sym States) → Type 0 = λ xs. Room xs n (counts a) seen keys in
        subst Q (reads_refused c q e) (record { none = ap (λ b. (counts b).dropped) at; carry = subst P (sym same) k })
    room_call m c n a seen keys ok k u low fits spares (searched q t is e at w) =
        let xs : reads M q ≡ call_reads M c = reads_done q (ap refusal (sym is) ∙ e) ∙ ap (call_reads M) (sym is) in
        let Q : List (Read Sym States) → Type 0 = λ ys. Room ys n (counts a) seen keys in
        let A : Answer → Type 0 = λ b. Room (reads M q) n (counts b) seen keys in
        let F : List (Read Sym States) → Type 0 = λ ys. sets_in_all M seen ys ≤ allowance m in
        let G : List (Read Sym States) → Type 0 = λ ys. keys_in_all M keys ys ≤ m.capacity in
        subst Q xs (subst A (sym at) (carry_walk M law m (reads M q) n t seen keys ok k (subst F (sym xs) fits) (subst G (sym xs) spares) w))
    room_call m c n a seen keys ok k u low fits spares (limited l gone is e at d) =
        let Q : List (Read Sym States) → Type 0 = λ ys. Room ys n (counts a) seen keys in
        let A : Answer → Type 0 = λ b. Room [] n (counts b) seen keys in
        subst Q (ap (call_reads M) (sym is)) (subst A (sym at) (room_limit m l n gone seen keys k low d))
    room_call m c n a seen keys ok k u low fits spares (cleared gone is at same z) =
        let U : Request Sym → Type 0 = λ y. Uncleared (y ∷ []) in
        absurd (subst U is u)

    pub room_series : (m : Memory States) (cs : List (Request Sym)) (rs : List Answer) (n : Memory States) (seen : List (State States)) (keys : List (Step States)) → Sound M m → Carry M m seen keys → Uncleared cs → sets_in_all M seen (all_reads M cs) ≤ least m.places m.limit cs → keys_in_all M keys (all_reads M cs) ≤ m.capacity → Series M m cs rs n → (dropped rs ≡ 0) × Carry M n (seen_after M seen (all_reads M cs)) (keys_after M keys (all_reads M cs))
    room_series m [] [] n seen keys ok c u fits spares e = let P : Memory States → Type 0 = λ j. Carry M j seen keys in (refl, subst P (sym e) c)
    room_series m [] (a ∷ rs) n seen keys ok c u fits spares e = elim e [ ]
    room_series m (q ∷ cs) [] n seen keys ok c u fits spares e = elim e [ ]
    room_series m (q ∷ cs) (a ∷ rs) n seen keys ok c u fits spares (k, (s, r)) =
        let xs : List (Read Sym States) = call_reads M q in
        let ys : List (Read Sym States) = all_reads M cs in
        let i = calling M law m q k a ok s in
        let sets = sets_append M xs ys seen in
        let steps_all = keys_append M xs ys keys in
        let less = sets_front M xs ys seen in
        let fewer = keys_front M xs ys keys in
        let later = least_later m.places m.limit q cs in
        let low = least_le m.places (next_limit m.limit q) cs in
        let now = least_le m.places m.limit (q ∷ cs) in
        let (v, u') = uncleared_parts q cs u in
        let w = room_call m q k a seen keys ok c v (omega (arith, i.limit)) (omega arith) (omega arith) s in
        let L : least k.places k.limit cs ≡ least m.places (next_limit m.limit q) cs = ap (λ p. least p k.limit cs) i.places ∙ ap (λ l. least m.places l cs) i.limit in
        let w' = room_series k cs rs n (seen_after M seen xs) (keys_after M keys xs) i.sound w.carry u' (omega arith) (omega (arith, i.capacity)) r in
        let P : List (State States) → Type 0 = λ zs. Carry M n zs (keys_after M keys (xs ++ ys)) in
        let Q : List (Step States) → Type 0 = λ zs. Carry M n (seen_after M (seen_after M seen xs) ys) zs in
        (omega (arith, w.none, w'.0), subst P (sym (seen_append M xs ys seen)) (subst Q (sym (key_append M xs ys keys)) w'.1))

    pub every : EverySeries M
    every places capacity cs rs n few some s =
        let ok : Sound M (opened places capacity) = sound_empty M (opened places capacity) few some (omega arith) in
        let i = going M law (opened places capacity) cs rs n ok s in
        record {
          answers = i.answers;
          defined = i.defined;
          words = i.words;
          fixed = (i.places, i.capacity);
          once = i.sound.once;
          cleared = cleared_last M (opened places capacity) cs rs n s;
          allowed = omega (arith, i.sound.allowed, i.limit, i.places);
          joins = i.sound.joins;
          counted = s;
          summed = i.summed;
          short = i.short;
          balance = omega (arith, i.balance, size_nothing places);
          unplain = i.unplain;
          exact = λ u fits spares.
              let w = room_series (opened places capacity) cs rs n [] [] ok (carry_opened M places capacity) u (omega arith) (omega arith) s in
              let end : length (keys_after M [] (all_reads M cs)) ≡ number_of_steps M cs = sym (keys_end M (all_reads M cs) []) ∙ zero-add _ in
              (w.0, omega (arith, i.balance, size_nothing places, w.0, w.1.sized, end));
        }

  pub two : AnyTwo M
  two places capacity cs rs n places' capacity' ds ts k f g e = f.defined ∙ ap (map (define M)) e ∙ sym g.defined

pub law : {Sym States : Type 0} (M : Subject Sym States) → Proper M → Law M
law M p = record { every = every M p; two = two M; idle = idle M; possible = possible M p }
