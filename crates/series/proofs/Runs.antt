-- A series, one call longer.
use Rattle.std.proofs.Common.{◌≡◌, ℕ, ◌+◌, ◌-◌, ◌<◌, ◌≤◌, List, [], ◌∷◌, ◌++◌, length, get_or, take, drop, set, sym, refl, ap, ◌∙◌, subst, arith, length-drop}
use borrow.Rule.Slice.PartMut.{put_mid}
use Rattle.std.proofs.lemmas.List.{length-take-le, take_more, take_more_set, take-take, drop-drop, drop-take}
use Rattle.std.proofs.lemmas.Slice.{take-put_mid_below, between-put_mid}
use Rattle.theory.specs.declared.Span.{Span}
use Rattle.sets.specs.Positions.{PositionSet}
use Rattle.memory.specs.declared.shelf.Shelf.{Ghosts as ShelfMeaning}
use Rattle.memory.specs.declared.policy.Policy.{Ghosts as PolicyMeaning}
use Rattle.law.specs.Subject.{Subject, Proper}
use Rattle.law.specs.Memory.{Memory, opened}
use Rattle.law.specs.Calls.{Request, Answer as Reply, Answered, Series}
use Rattle.law.specs.Law.{Lawful}
use Rattle.law.proofs.Calling.{series_snoc}
use Rattle.law.proofs.Laws.{every, two}
use Rattle.automaton.specs.declared.automaton.Automaton.{Ghosts as AutomatonMeaning}
use Rattle.search.specs.declared.scanner.Scanner.{Scanner}
use Rattle.series.specs.declared.series.Call.{Call}
use Rattle.series.specs.declared.series.Call.TheVariants as call
use Rattle.search.specs.Remembered.{memory, subject}
use Rattle.search.specs.Calling.{Called}
use Rattle.series.specs.Answers.{Outcome}
use Rattle.series.specs.Performed.{portion, request, requests, each, taken, Agrees, Continues}

cons_same : {A : Type 0} (x y : A) (xs ys : List A) → x ≡ y → xs ≡ ys → ◌≡◌ {A = List A} (x ∷ xs) (y ∷ ys)
cons_same x y xs ys e f = cc

module _ {Sym : Type 0} where
  pub portion_le : (c : Call Sym) (left : ℕ) → portion c left ≤ left
  portion_le (call.Find r from) left = omega arith
  portion_le (call.List r from entries) left = omega arith
  portion_le (call.Whole r) left = omega arith
  portion_le (call.Limit l) left = omega arith
  portion_le call.Clear left = omega arith

  pub requests_snoc : (left : ℕ) (cs : List (Call Sym)) (c : Call Sym) → requests left (cs ++ (c ∷ [])) ≡ requests left cs ++ (request (portion c (left - taken left cs)) c ∷ [])
  requests_snoc left [] c = ap (λ n. request (portion c n) c ∷ []) (omega arith)
  requests_snoc left (d ∷ cs) c =
      let less : ℕ = left - portion d left in
      let e : less - taken less cs ≡ left - (portion d left + taken less cs) = omega arith in
      cons_same _ _ _ _ refl (requests_snoc less cs c ∙ ap (λ n. requests less cs ++ (request (portion c n) c ∷ [])) e)

  pub taken_snoc : (left : ℕ) (cs : List (Call Sym)) (c : Call Sym) → taken left (cs ++ (c ∷ [])) ≡ taken left cs + portion c (left - taken left cs)
  taken_snoc left [] c =
      let e : portion c left ≡ portion c (left - 0) = ap (portion c) (omega arith) in
      omega arith
  taken_snoc left (d ∷ cs) c =
      let less : ℕ = left - portion d left in
      let e : portion c (less - taken less cs) ≡ portion c (left - (portion d left + taken less cs)) = ap (portion c) (omega arith) in
      omega (arith, taken_snoc less cs c)

  pub each_snoc : {B : Type 0} (f : List Span → Outcome → B) (pool : List Span) (cs : List (Call Sym)) (rs : List Outcome) (c : Call Sym) (a : Outcome) → length rs ≡ length cs → each f pool (cs ++ (c ∷ [])) (rs ++ (a ∷ [])) ≡ each f pool cs rs ++ (f (take (portion c (length pool - taken (length pool) cs)) (drop (taken (length pool) cs) pool)) a ∷ [])
  each_snoc f pool [] [] c a e =
      let n : length pool ≡ length pool - 0 = omega arith in
      ap (λ k. f (take (portion c k) pool) a ∷ []) n
  each_snoc f pool [] (b ∷ rs) c a e = absurd (omega arith)
  each_snoc f pool (d ∷ cs) [] c a e = absurd (omega arith)
  each_snoc f pool (d ∷ cs) (b ∷ rs) c a e =
      let p : ℕ = portion d (length pool) in
      let rest : List Span = drop p pool in
      let long : length rest ≡ length pool - p = length-drop p pool in
      let t : taken (length rest) cs ≡ taken (length pool - p) cs = ap (λ n. taken n cs) long in
      let left : length rest - taken (length rest) cs ≡ length pool - (p + taken (length pool - p) cs) = omega arith in
      cons_same _ _ _ _ refl
      (each_snoc f rest cs rs c a (omega arith)
      ∙ ap (λ n. each f rest cs rs ++ (f (take (portion c n) (drop (taken (length rest) cs) rest)) a ∷ [])) left
      ∙ ap (λ n. each f rest cs rs ++ (f (take (portion c (length pool - (p + taken (length pool - p) cs))) (drop n rest)) a ∷ [])) t
      ∙ ap (λ xs. each f rest cs rs ++ (f (take (portion c (length pool - (p + taken (length pool - p) cs))) xs) a ∷ [])) (drop-drop (taken (length pool - p) cs) p pool))

  -- entries behind those taken do not count
  pub each_front : {B : Type 0} (f : List Span → Outcome → B) (pool pool' : List Span) (cs : List (Call Sym)) (rs : List Outcome) → length pool ≡ length pool' → take (taken (length pool) cs) pool ≡ take (taken (length pool) cs) pool' → each f pool cs rs ≡ each f pool' cs rs
  each_front f pool pool' [] rs l e = refl
  each_front f pool pool' (c ∷ cs) [] l e = refl
  each_front f pool pool' (c ∷ cs) (a ∷ rs) l e =
      let p : ℕ = portion c (length pool) in
      let t : ℕ = taken (length pool - p) cs in
      let q : p ≡ portion c (length pool') = ap (portion c) l in
      let long : length (drop p pool) ≡ length pool - p = length-drop p pool in
      let first : take p pool ≡ take p pool' = sym (take-take p (p + t) pool (omega arith)) ∙ ap (take p) e ∙ take-take p (p + t) pool' (omega arith) in
      let then : take t (drop p pool) ≡ take t (drop p pool') = sym (drop-take p t pool) ∙ ap (drop p) e ∙ drop-take p t pool' in
      let P : ℕ → Type 0 = λ n. take n (drop p pool) ≡ take n (drop p pool') in
      cons_same _ _ _ _ (ap (λ xs. f xs a) (first ∙ ap (λ n. take n pool') q))
      (each_front f (drop p pool) (drop p pool') cs rs (long ∙ ap (λ n. n - p) l ∙ sym (length-drop p pool')) (subst P (ap (λ n. taken n cs) (sym long)) then)
      ∙ ap (λ n. each f (drop n pool') cs rs) q)

  -- one call more

  calls_more : (calls : List (Call Sym)) (i : ℕ) (c : Call Sym) → i < length calls → c ≡ get_or calls i c → take (i + 1) calls ≡ take i calls ++ (c ∷ [])
  calls_more calls i c l at = take_more calls i c l ∙ ap (λ x. take i calls ++ (x ∷ [])) (sym at)

  pub requests_more : (N : ℕ) (calls : List (Call Sym)) (i used n : ℕ) (c : Call Sym) → i < length calls → c ≡ get_or calls i c → used ≡ taken N (take i calls) → n ≡ portion c (N - used) → requests N (take (i + 1) calls) ≡ requests N (take i calls) ++ (request n c ∷ [])
  requests_more N calls i used n c l at u p =
      ap (requests N) (calls_more calls i c l at) ∙ requests_snoc N (take i calls) c
      ∙ ap (λ k. requests N (take i calls) ++ (request k c ∷ [])) (ap (λ k. portion c (N - k)) (sym u) ∙ sym p)

  pub taken_more : (N : ℕ) (calls : List (Call Sym)) (i used n : ℕ) (c : Call Sym) → i < length calls → c ≡ get_or calls i c → used ≡ taken N (take i calls) → n ≡ portion c (N - used) → used + n ≡ taken N (take (i + 1) calls)
  taken_more N calls i used n c l at u p =
      let e : taken N (take (i + 1) calls) ≡ taken N (take i calls) + portion c (N - taken N (take i calls)) = ap (taken N) (calls_more calls i c l at) ∙ taken_snoc N (take i calls) c in
      let q : n ≡ portion c (N - taken N (take i calls)) = p ∙ ap (λ k. portion c (N - k)) u in
      omega arith

  pub each_more : {B : Type 0} (f : List Span → Outcome → B) (N : ℕ) (pool pool' part : List Span) (k : ℕ) (calls : List (Call Sym)) (answers : List Outcome) (i used n : ℕ) (c : Call Sym) (a : Outcome) → length pool ≡ N → length pool' ≡ N → pool' ≡ put_mid used k pool part → length part ≡ n → used ≤ N → i < length calls → i < length answers → c ≡ get_or calls i c → used ≡ taken N (take i calls) → n ≡ portion c (N - used) → each f pool' (take (i + 1) calls) (take (i + 1) (set answers i a)) ≡ each f pool (take i calls) (take i answers) ++ (f part a ∷ [])
  each_more f N pool pool' part k calls answers i used n c a lp lp' e ln lu hc ha at u p =
      let cs : List (Call Sym) = take i calls in
      let rs : List Outcome = take i answers in
      let t : taken (length pool') cs ≡ used = ap (λ x. taken x cs) lp' ∙ sym u in
      let t₀ : taken (length pool) cs ≡ used = ap (λ x. taken x cs) lp ∙ sym u in
      let q : portion c (length pool' - taken (length pool') cs) ≡ (used + n) - used = ap (λ x. portion c (length pool' - x)) t ∙ ap (λ x. portion c (x - used)) lp' ∙ sym p ∙ omega arith in
      let here : take (portion c (length pool' - taken (length pool') cs)) (drop (taken (length pool') cs) pool') ≡ part =
      ap (λ x. take x (drop (taken (length pool') cs) pool')) q ∙ ap (λ x. take ((used + n) - used) (drop x pool')) t ∙ ap (λ x. take ((used + n) - used) (drop used x)) e
      ∙ between-put_mid used k pool part (used + n) (omega arith) (omega arith) in
      let front : take (taken (length pool) cs) pool ≡ take (taken (length pool) cs) pool' =
      ap (λ x. take x pool) t₀ ∙ sym (take-put_mid_below used k pool part used (omega arith) (omega arith)) ∙ ap (take used) (sym e) ∙ ap (λ x. take x pool') (sym t₀) in
      ap (λ x. each f pool' x (take (i + 1) (set answers i a))) (calls_more calls i c hc at)
      ∙ ap (each f pool' (cs ++ (c ∷ []))) (take_more_set answers i a ha)
      ∙ each_snoc f pool' cs rs c a (length-take-le i answers (omega arith) ∙ sym (length-take-le i calls (omega arith)))
      ∙ ap (λ x. each f pool' cs rs ++ (f x a ∷ [])) here
      ∙ ap (λ x. x ++ (f part a ∷ [])) (sym (each_front f pool pool' cs rs (lp ∙ sym lp') front))

  pub each_same : {B : Type 0} (f : List Span → Outcome → B) (N : ℕ) (pool : List Span) (calls : List (Call Sym)) (answers : List Outcome) (i used n : ℕ) (c : Call Sym) (a : Outcome) → length pool ≡ N → i < length calls → i < length answers → c ≡ get_or calls i c → used ≡ taken N (take i calls) → n ≡ portion c (N - used) → each f pool (take (i + 1) calls) (take (i + 1) (set answers i a)) ≡ each f pool (take i calls) (take i answers) ++ (f (take n (drop used pool)) a ∷ [])
  each_same f N pool calls answers i used n c a lp hc ha at u p =
      let cs : List (Call Sym) = take i calls in
      let t : taken (length pool) cs ≡ used = ap (λ x. taken x cs) lp ∙ sym u in
      let q : portion c (length pool - taken (length pool) cs) ≡ n = ap (λ x. portion c (length pool - x)) t ∙ ap (λ x. portion c (x - used)) lp ∙ sym p in
      ap (λ x. each f pool x (take (i + 1) (set answers i a))) (calls_more calls i c hc at)
      ∙ ap (each f pool (cs ++ (c ∷ []))) (take_more_set answers i a ha)
      ∙ each_snoc f pool cs (take i answers) c a (length-take-le i answers (omega arith) ∙ sym (length-take-le i calls (omega arith)))
      ∙ ap (λ x. each f pool cs (take i answers) ++ (f (take x (drop (taken (length pool) cs) pool)) a ∷ [])) q
      ∙ ap (λ x. each f pool cs (take i answers) ++ (f (take n (drop x pool)) a ∷ [])) t

-- one series after another
series_append : {Sym : Type 0} (X : Subject Sym PositionSet) (m : Memory PositionSet) (ds : List (Request Sym)) (ts : List Reply) (k : Memory PositionSet) (cs : List (Request Sym)) (rs : List Reply) (n : Memory PositionSet) → Series X m ds ts k → Series X k cs rs n → Series X m (ds ++ cs) (ts ++ rs) n
series_append X m [] [] k cs rs n e s = subst (λ j. Series X j cs rs n) e s
series_append X m [] (b ∷ ts) k cs rs n e s = elim e [ ]
series_append X m (d ∷ ds) [] k cs rs n e s = elim e [ ]
series_append X m (d ∷ ds) (b ∷ ts) k cs rs n (j, (t, r)) s = (j, (t, series_append X j ds ts k cs rs n r s))

pub continues : {Sym : Type 0} (X : Subject Sym PositionSet) (m : Memory PositionSet) (cs : List (Request Sym)) (rs : List Reply) (n : Memory PositionSet) → Proper X → m.places ≤ 64 → (0 < m.places → 0 < m.capacity) → Series X m cs rs n → Continues X m cs rs n
continues X m cs rs n law few some s ds ts before =
    every X law m.places m.capacity (ds ++ cs) (ts ++ rs) n few some (series_append X (opened m.places m.capacity) ds ts m cs rs n before s)

module _ {M S P Sym : Type 0} (automaton : AutomatonMeaning M Sym) (shelf : ShelfMeaning S) (policy : PolicyMeaning P) (laws : (m : M) → Proper (automaton.subject m)) where
  pub series_next : (s j n : Scanner M S P) (cs cs' : List (Request Sym)) (rs rs' : List Reply) (c : Request Sym) (a : Reply) → j.automaton ≡ s.automaton → cs' ≡ cs ++ (c ∷ []) → rs' ≡ rs ++ (a ∷ []) → Called automaton shelf policy j c n a → Series (subject automaton s) (memory shelf policy s) cs rs (memory shelf policy j) → Series (subject automaton s) (memory shelf policy s) cs' rs' (memory shelf policy n)
  series_next s j n cs cs' rs rs' c a e ec er d w =
      let X = subject automaton s in
      let one : Answered X (memory shelf policy j) c (memory shelf policy n) a = subst (λ y. Answered (automaton.subject y.now) (memory shelf policy j) c (memory shelf policy n) a) e d in
      subst (λ y. Series X (memory shelf policy s) y rs' (memory shelf policy n)) (sym ec)
      (subst (λ y. Series X (memory shelf policy s) (cs ++ (c ∷ [])) y (memory shelf policy n)) (sym er) (series_snoc X (memory shelf policy s) cs rs (memory shelf policy j) c a (memory shelf policy n) w one))

  pub lawful_run : (s n : Scanner M S P) (places capacity : ℕ) (cs : List (Request Sym)) (rs : List Reply) (m : M) → s.automaton.now ≡ m → memory shelf policy s ≡ opened places capacity → places ≤ 64 → (0 < places → 0 < capacity) → Series (subject automaton s) (memory shelf policy s) cs rs (memory shelf policy n) → Lawful (automaton.subject m) places capacity cs rs (memory shelf policy n)
  lawful_run s n places capacity cs rs m e o few some w =
      every (automaton.subject m) (laws m) places capacity cs rs (memory shelf policy n) few some
      (subst (λ y. Series (automaton.subject y) (opened places capacity) cs rs (memory shelf policy n)) e (subst (λ y. Series (subject automaton s) y cs rs (memory shelf policy n)) o w))

pub agree : {Sym : Type 0} (X : Subject Sym PositionSet) (places capacity : ℕ) (cs : List (Request Sym)) (rs : List Reply) (n : Memory PositionSet) → Lawful X places capacity cs rs n → Agrees X cs rs
agree X places capacity cs rs n f places' capacity' ds ts k g e = two X places capacity cs rs n places' capacity' ds ts k f g e
