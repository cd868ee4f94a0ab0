-- Each call keeps a memory sound, balances its steps, and answers as defined; and so does a series.
use Rattle.std.proofs.Common.{◌≡◌, ℕ, ◌+◌, ◌-◌, ◌*◌, ◌<◌, ◌≤◌, true, false, cond, ltb, List, [], ◌∷◌, ◌++◌, map, length, Some, None, sym, refl, ap, ◌∙◌, subst, ⊎_elim, arith}
use Rattle.std.proofs.lemmas.Bool.{cases_Bool, ltb-false, both_ways}
use Rattle.refusal.specs.declared.Cause.TheVariants.{LimitTooLarge}
use Rattle.refusal.specs.declared.Refusal.{Refusal}
use Rattle.memory.proofs.Sizes.{size_nothing}
use Rattle.theory.specs.Positions.{positions}
use Rattle.theory.proofs.Tells.{tells}
use Rattle.theory.proofs.Find.{find_finds}
use Rattle.theory.proofs.Lists.{list_lists}
use Rattle.theory.proofs.Whole.{whole_word}
use Rattle.theory.proofs.Reading.{reading}
use Rattle.law.specs.Subject.{Subject, Word, Proper}
use Rattle.law.specs.Memory.{Memory, sets_live, allowance, steps_known, emptied, with_limit, Joins, Sound}
use Rattle.law.specs.Reading.{Counts, Walk}
use Rattle.law.specs.Calls.{Query, Find, Lists, Whole, Request, Search, Limit, Clear, Answer, Searched, Dropped, Refused, refusal, refused_if, findings, reads, Limited, within, beyond, Answered, refused, searched, limited, cleared, Series}
use Rattle.law.specs.Law.{Each, counts, searches, replies, finds, outcome, or_refused, define, Says, ByWords, next_limit, last_limit, built, dropped, Summed, Short, Unplain, ClearLast, RefusalsIdle}
use Rattle.law.proofs.Tally.{tally_zero}
use Rattle.law.proofs.Maps.{some_not}
use Rattle.law.proofs.Walks.{walking}

cons_same : {A : Type 0} (x y : A) (xs ys : List A) → x ≡ y → xs ≡ ys → ◌≡◌ {A = List A} (x ∷ xs) (y ∷ ys)
cons_same x y xs ys e f = cc

above_limit : (k : ℕ) (q : Refusal) → refused_if (ltb 64 k) LimitTooLarge None ≡ Some q → ltb 64 k ≡ true
above_limit k q e =
    ⊎_elim (λ (h : ltb 64 k ≡ true). h) (λ (h : ltb 64 k ≡ false). absurd (some_not q (sym (ap (λ b. refused_if b LimitTooLarge None) h) ∙ e))) (cases_Bool (ltb 64 k))

not_above : (k : ℕ) → refused_if (ltb 64 k) LimitTooLarge None ≡ None → ltb 64 k ≡ false
not_above k e =
    ⊎_elim (λ (h : ltb 64 k ≡ true). absurd (some_not _ (sym e ∙ ap (λ b. refused_if b LimitTooLarge None) h))) (λ (h : ltb 64 k ≡ false). h) (cases_Bool (ltb 64 k))

module _ {Sym : Type 0} where
  pub search_same : (q p : Query Sym) → Search q ≡ Search p → q ≡ p
  search_same q p e = cc

  pub clear_search : (q : Query Sym) → Clear ≡ Search q → ⊥
  clear_search q e = let z : ◌≡◌ {A = ℕ} 0 1 = cc in omega arith

  pub clear_limit : (l : ℕ) → ◌≡◌ {A = Request Sym} Clear (Limit l) → ⊥
  clear_limit l e = let z : ◌≡◌ {A = ℕ} 0 1 = cc in omega arith

  pub limit_search : (l : ℕ) (q : Query Sym) → Limit l ≡ Search q → ⊥
  limit_search l q e = let z : ◌≡◌ {A = ℕ} 0 1 = cc in omega arith

  next_refused : (l : ℕ) (c : Request Sym) (q : Refusal) → refusal c ≡ Some q → next_limit l c ≡ l
  next_refused l (Search p) q e = refl
  next_refused l (Limit k) q e = ap (λ b. cond b l k) (above_limit k q e)
  next_refused l Clear q e = refl

module _ {Sym States : Type 0} (M : Subject Sym States) where
  pub sound_empty : (m : Memory States) → m.places ≤ 64 → (0 < m.places → 0 < m.capacity) → m.limit ≤ 64 → Sound M (emptied m)
  sound_empty m few some lim =
      record {
        heard = λ k. refl;
        low = λ p s e. absurd (some_not s e);
        few = few;
        some = some;
        limited = lim;
        once = λ p q s e f. absurd (some_not s e);
        allowed = omega (arith, tally_zero (λ k. false) 64 (λ k h. both_ways false refl h));
        classes = λ p c t e. absurd (some_not t e);
        joins = λ p c t e. absurd (some_not t e);
        fits = omega (arith, size_nothing m.places);
      }

  joins_limit : (m : Memory States) (l : ℕ) (p c t : ℕ) → Joins M m p c t → Joins M (with_limit m l) p c t
  joins_limit m l p c t j = record { direction = j.direction; from = j.from; to = j.to; here = j.here; there = j.there; follows = j.follows }

  sound_limit : (m : Memory States) (l : ℕ) → Sound M m → l ≤ 64 → sets_live m ≤ allowance (with_limit m l) → Sound M (with_limit m l)
  sound_limit m l ok lim few =
      record {
        heard = ok.heard;
        low = ok.low;
        few = ok.few;
        some = ok.some;
        limited = lim;
        once = ok.once;
        allowed = few;
        classes = ok.classes;
        joins = λ p c t e. joins_limit m l p c t (ok.joins p c t e);
        fits = ok.fits;
      }

  -- what a call brings
  pub record Calling (m : Memory States) (c : Request Sym) (n : Memory States) (a : Answer) : Type 0 where
    pub sound : Sound M n
    pub balance : steps_known m + (counts a).built ≡ steps_known n + (counts a).dropped
    pub summed : Summed c a
    pub short : Short c a
    pub unplain : 2 ≤ allowance m → (counts a).plain ≡ 0
    pub limit : n.limit ≡ next_limit m.limit c
    pub places : n.places ≡ m.places
    pub capacity : n.capacity ≡ m.capacity
    pub words : ByWords M c a
    pub defined : (cs : List (Request Sym)) (rs : List Answer) → map outcome (replies cs rs) ≡ map (define M) (searches cs) → map outcome (replies (c ∷ cs) (a ∷ rs)) ≡ map (define M) (searches (c ∷ cs))

  -- refused

  defined_refused : (c : Request Sym) (q : Refusal) (cs : List (Request Sym)) (rs : List Answer) → refusal c ≡ Some q → map outcome (replies cs rs) ≡ map (define M) (searches cs) → map outcome (replies (c ∷ cs) (Refused q ∷ rs)) ≡ map (define M) (searches (c ∷ cs))
  defined_refused (Search p) q cs rs e h = cons_same _ _ _ _ (sym (ap (λ o. or_refused o (finds (findings M p) (length (reads M p)))) e)) h
  defined_refused (Limit k) q cs rs e h = h
  defined_refused Clear q cs rs e h = h

  call_refused : (m : Memory States) (c : Request Sym) (q : Refusal) → Sound M m → refusal c ≡ Some q → Calling m c m (Refused q)
  call_refused m c q ok e =
      record {
        sound = ok;
        balance = refl;
        summed = refl;
        short = λ r from _. omega arith;
        unplain = λ _. refl;
        limit = sym (next_refused m.limit c q e);
        places = refl;
        capacity = refl;
        words = λ p is none. absurd (some_not q (sym none ∙ e));
        defined = λ cs rs h. defined_refused c q cs rs e h;
      }

  -- limit and clear

  call_limit : (m : Memory States) (l : ℕ) (n : Memory States) (gone : ℕ) → Sound M m → refusal {Sym = Sym} (Limit l) ≡ None → Limited m l n gone → Calling m (Limit l) n (Dropped gone)
  call_limit m l n gone ok e (within few same z) =
      let P : Memory States → Type 0 = λ j. Calling m (Limit l) j (Dropped gone) in
      let b = not_above l e in
      subst P (sym same)
      record {
        sound = sound_limit m l ok (ltb-false 64 l b) few;
        balance = omega arith;
        summed = refl;
        short = λ r from is. absurd (limit_search l (Find r from) is);
        unplain = λ _. refl;
        limit = sym (ap (λ x. cond x m.limit l) b);
        places = refl;
        capacity = refl;
        words = λ q is none. absurd (limit_search l q is);
        defined = λ cs rs h. h;
      }
  call_limit m l n gone ok e (beyond many same z) =
      let P : Memory States → Type 0 = λ j. Calling m (Limit l) j (Dropped gone) in
      let b = not_above l e in
      subst P (sym same)
      record {
        sound = sound_empty (with_limit m l) ok.few ok.some (ltb-false 64 l b);
        balance = omega (arith, size_nothing m.places);
        summed = refl;
        short = λ r from is. absurd (limit_search l (Find r from) is);
        unplain = λ _. refl;
        limit = sym (ap (λ x. cond x m.limit l) b);
        places = refl;
        capacity = refl;
        words = λ q is none. absurd (limit_search l q is);
        defined = λ cs rs h. h;
      }

  call_clear : (m : Memory States) (gone : ℕ) → Sound M m → gone ≡ steps_known m → Calling m Clear (emptied m) (Dropped gone)
  call_clear m gone ok z =
      record {
        sound = sound_empty m ok.few ok.some ok.limited;
        balance = omega (arith, size_nothing m.places);
        summed = refl;
        short = λ r from is. absurd (clear_search (Find r from) is);
        unplain = λ _. refl;
        limit = refl;
        places = refl;
        capacity = refl;
        words = λ q is none. absurd (clear_search q is);
        defined = λ cs rs h. h;
      }

  short_query : (q : Query Sym) (n : ℕ) → n ≡ length (reads M q) → (r : List Sym) (from : ℕ) → q ≡ Find r from → n ≤ 2 * (length r - from)
  short_query q n e r from is =
      let P : Query Sym → Type 0 = λ p. length (reads M p) ≤ 2 * (length r - from) in
      omega (arith, subst P (sym is) ((reading M.machine).find_most r from))

  module _ (law : Proper M) where
    pub says : (q : Query Sym) → Says M q (findings M q)
    says (Find r from) = find_finds M.passes (positions M.tree) M.machine law.lawful (Word M) (tells M.passes M.tree law.numbered) r from
    says (Lists r from entries) = list_lists M.passes (positions M.tree) M.machine law.lawful (Word M) (tells M.passes M.tree law.numbered) r entries from
    says (Whole r) = whole_word M.passes (positions M.tree) M.machine law.lawful (Word M) (tells M.passes M.tree law.numbered) r

    call_search : (m : Memory States) (q : Query Sym) (n : Memory States) (k : Counts) → Sound M m → refusal (Search q) ≡ None → Walk M m (reads M q) n k → Calling m (Search q) n (Searched (findings M q) k)
    call_search m q n k ok e w =
        let i = walking M law m (reads M q) n k ok w in
        record {
          sound = i.sound;
          balance = i.balance;
          summed = i.once;
          short = λ r from is. short_query q k.reads i.reads r from (search_same q (Find r from) is);
          unplain = i.unplain;
          limit = i.limit;
          places = i.places;
          capacity = i.capacity;
          words = λ p is none. let P : Query Sym → Type 0 = λ y. Says M y (findings M q) in (findings M q, (k, (refl, subst P (search_same q p is) (says q))));
          defined = λ cs rs h. cons_same _ _ _ _ (ap (λ x. finds (findings M q) x) i.reads ∙ sym (ap (λ o. or_refused o (finds (findings M q) (length (reads M q)))) e)) h;
        }

    pub calling : (m : Memory States) (c : Request Sym) (n : Memory States) (a : Answer) → Sound M m → Answered M m c n a → Calling m c n a
    calling m c n a ok (refused q e at same) =
        let P : Memory States → Type 0 = λ j. Calling m c j (Refused q) in
        let Q : Answer → Type 0 = λ b. Calling m c n b in
        subst Q (sym at) (subst P (sym same) (call_refused m c q ok e))
    calling m c n a ok (searched q k is e at w) =
        let P : Request Sym → Type 0 = λ y. Calling m y n (Searched (findings M q) k) in
        let Q : Answer → Type 0 = λ b. Calling m c n b in
        subst Q (sym at) (subst P (sym is) (call_search m q n k ok (ap refusal (sym is) ∙ e) w))
    calling m c n a ok (limited l gone is e at d) =
        let P : Request Sym → Type 0 = λ y. Calling m y n (Dropped gone) in
        let Q : Answer → Type 0 = λ b. Calling m c n b in
        subst Q (sym at) (subst P (sym is) (call_limit m l n gone ok (ap refusal (sym is) ∙ e) d))
    calling m c n a ok (cleared gone is at same z) =
        let P : Request Sym → Type 0 = λ y. Calling m y n (Dropped gone) in
        let Q : Answer → Type 0 = λ b. Calling m c n b in
        let R : Memory States → Type 0 = λ j. Calling m Clear j (Dropped gone) in
        subst Q (sym at) (subst P (sym is) (subst R (sym same) (call_clear m gone ok z)))

    -- what a series brings, call by call
    pub record Going (m : Memory States) (cs : List (Request Sym)) (rs : List Answer) (n : Memory States) : Type 0 where
      pub answers : length rs ≡ length cs
      pub sound : Sound M n
      pub defined : map outcome (replies cs rs) ≡ map (define M) (searches cs)
      pub words : Each (ByWords M) cs rs
      pub summed : Each Summed cs rs
      pub short : Each Short cs rs
      pub balance : steps_known m + built rs ≡ steps_known n + dropped rs
      pub unplain : Unplain m.places m.limit cs rs
      pub limit : n.limit ≡ last_limit m.limit cs
      pub places : n.places ≡ m.places
      pub capacity : n.capacity ≡ m.capacity

    gone : (m : Memory States) → Sound M m → Going m [] [] m
    gone m ok = record { answers = refl; sound = ok; defined = refl; words = tt; summed = tt; short = tt; balance = refl; unplain = tt; limit = refl; places = refl; capacity = refl }

    one_more : (m : Memory States) (c : Request Sym) (a : Answer) (k : Memory States) (cs : List (Request Sym)) (rs : List Answer) (n : Memory States) → Calling m c k a → Going k cs rs n → Going m (c ∷ cs) (a ∷ rs) n
    one_more m c a k cs rs n s i =
        let P : ℕ → Type 0 = λ l. Unplain m.places l cs rs in
        let Q : ℕ → Type 0 = λ p. Unplain p k.limit cs rs in
        record {
          answers = omega (arith, i.answers);
          sound = i.sound;
          defined = s.defined cs rs i.defined;
          words = (s.words, i.words);
          summed = (s.summed, i.summed);
          short = (s.short, i.short);
          balance = omega (arith, s.balance, i.balance);
          unplain = (s.unplain, subst P s.limit (subst Q s.places i.unplain));
          limit = i.limit ∙ ap (λ l. last_limit l cs) s.limit;
          places = i.places ∙ s.places;
          capacity = i.capacity ∙ s.capacity;
        }

    pub going : (m : Memory States) (cs : List (Request Sym)) (rs : List Answer) (n : Memory States) → Sound M m → Series M m cs rs n → Going m cs rs n
    going m [] [] n ok e = let P : Memory States → Type 0 = λ j. Going m [] [] j in subst P (sym e) (gone m ok)
    going m [] (a ∷ rs) n ok e = elim e [ ]
    going m (c ∷ cs) [] n ok e = elim e [ ]
    going m (c ∷ cs) (a ∷ rs) n ok (k, (s, r)) = let i = calling m c k a ok s in one_more m c a k cs rs n i (going k cs rs n i.sound r)

  pub series_snoc : (m : Memory States) (cs : List (Request Sym)) (rs : List Answer) (k : Memory States) (c : Request Sym) (a : Answer) (n : Memory States) → Series M m cs rs k → Answered M k c n a → Series M m (cs ++ (c ∷ [])) (rs ++ (a ∷ [])) n
  series_snoc m [] [] k c a n e s = let P : Memory States → Type 0 = λ j. Answered M j c n a in (n, (subst P e s, refl))
  series_snoc m [] (b ∷ rs) k c a n e s = elim e [ ]
  series_snoc m (d ∷ cs) [] k c a n e s = elim e [ ]
  series_snoc m (d ∷ cs) (b ∷ rs) k c a n (j, (t, r)) s = (j, (t, series_snoc j cs rs k c a n r s))

  -- a clear came last

  cleared_one : (m : Memory States) (n : Memory States) (a : Answer) → Answered M m Clear n a → (p : ℕ) → n.live p ≡ None
  cleared_one m n a (refused q e at same) p = absurd (some_not q e)
  cleared_one m n a (searched q k is e at w) p = absurd (clear_search q is)
  cleared_one m n a (limited l gone is e at d) p = absurd (clear_limit {Sym = Sym} l is)
  cleared_one m n a (cleared gone is at same z) p = ap (λ (j : Memory States). j.live p) same

  cleared_after : (m : Memory States) (before : List (Request Sym)) (rs : List Answer) (n : Memory States) → Series M m (before ++ (Clear ∷ [])) rs n → (p : ℕ) → n.live p ≡ None
  cleared_after m [] [] n s = elim s [ ]
  cleared_after m [] (a ∷ []) n (k, (s, e)) = λ p. ap (λ (j : Memory States). j.live p) e ∙ cleared_one m k a s p
  cleared_after m [] (a ∷ b ∷ rs) n (k, (s, e)) = elim e [ ]
  cleared_after m (c ∷ before) [] n s = elim s [ ]
  cleared_after m (c ∷ before) (a ∷ rs) n (k, (s, r)) = cleared_after k before rs n r

  pub cleared_last : (m : Memory States) (cs : List (Request Sym)) (rs : List Answer) (n : Memory States) → Series M m cs rs n → ClearLast cs → (p : ℕ) → n.live p ≡ None
  cleared_last m cs rs n s (before, e) =
      let P : List (Request Sym) → Type 0 = λ ds. Series M m ds rs n in
      cleared_after m before rs n (subst P e s)

  pub idle : RefusalsIdle M
  idle m c n a q e (refused p f at same) = (at ∙ ap Refused (refusal_same p q (sym f ∙ e)), same)
    where
      refusal_same : (p q : Refusal) → Some p ≡ Some q → p ≡ q
      refusal_same p q h = cc
  idle m c n a q e (searched p k is f at w) = absurd (some_not q (sym f ∙ e))
  idle m c n a q e (limited l gone is f at d) = absurd (some_not q (sym f ∙ e))
  idle m c n a q e (cleared gone is at same z) = absurd (some_not q (ap refusal (sym is) ∙ e))
