-- One read keeps a memory sound, and is counted once.
use Rattle.std.proofs.Common.{◌≡◌, ℕ, ◌+◌, ◌<◌, ◌≤◌, true, ◌⊎◌, Some, None, Option, sym, refl, ◌∙◌, subst, inl, inr, ⊎_elim, arith}
use Rattle.memory.specs.Steps.{Map, nothing, noted, size}
use Rattle.memory.proofs.Sizes.{size_noted, size_nothing}
use Rattle.theory.specs.Reads.{Read, source, target}
use Rattle.law.specs.Subject.{Subject, leads, Proper}
use Rattle.law.specs.Memory.{Memory, allowance, steps_known, Seated, already, Noted, spare, full, with_steps, Joins, Sound}
use Rattle.law.specs.Reading.{Counts, OneRead, known, built, plain}
use Rattle.law.proofs.Maps.{some_not, Other, noted_cases}
use Rattle.law.proofs.Seats.{Seating, seating, nowhere_few}

pub cases_step : (o : Option ℕ) → (o ≡ None) ⊎ ((t : ℕ) × (o ≡ Some t))
cases_step None = inl refl
cases_step (Some t) = inr (t, refl)

-- with fewer steps, what was not known is not known
pub unknown_stays : {States : Type 0} (m n : Memory States) (p c : ℕ) → ((q d t : ℕ) → n.known q d ≡ Some t → m.known q d ≡ Some t) → m.known p c ≡ None → n.known p c ≡ None
unknown_stays m n p c fewer e =
    ⊎_elim
    (λ (h : n.known p c ≡ None). h)
    (λ (h : (t : ℕ) × (n.known p c ≡ Some t)). absurd (some_not h.0 (sym e ∙ fewer p c h.0 h.1)))
    (cases_step (n.known p c))

module _ {Sym States : Type 0} (M : Subject Sym States) where
  joins_with : (m : Memory States) (f : Map) (p c t : ℕ) → Joins M m p c t → Joins M (with_steps m f) p c t
  joins_with m f p c t j = record { direction = j.direction; from = j.from; to = j.to; here = j.here; there = j.there; follows = j.follows }

  sound_with : (m : Memory States) (f : Map) → Sound M m → size m.places f ≤ m.capacity → ((p c t : ℕ) → f p c ≡ Some t → c < 256) → ((p c t : ℕ) → f p c ≡ Some t → Joins M m p c t) → Sound M (with_steps m f)
  sound_with m f ok few low js =
      record {
        heard = ok.heard;
        low = ok.low;
        few = ok.few;
        some = ok.some;
        limited = ok.limited;
        once = ok.once;
        allowed = ok.allowed;
        classes = low;
        joins = λ p c t e. joins_with m f p c t (js p c t e);
        fits = few;
      }

  -- what noting a step brings
  pub record Noting (m : Memory States) (p c t : ℕ) (n : Memory States) (gone : ℕ) : Type 0 where
    pub sound : Sound M n
    pub balance : gone + steps_known n ≡ steps_known m + 1
    pub limit : n.limit ≡ m.limit
    pub places : n.places ≡ m.places
    pub capacity : n.capacity ≡ m.capacity

  noted_with : (m : Memory States) (f : Map) (p c t gone : ℕ) → Sound M m → p < m.places → c < 256 → Joins M m p c t → f p c ≡ None → ((q d u : ℕ) → f q d ≡ Some u → m.known q d ≡ Some u) → size m.places f < m.capacity → gone + size m.places f ≡ steps_known m → Noting m p c t (with_steps m (noted f p c t)) gone
  noted_with m f p c t gone ok l cl j free fewer spare_room z =
      let e : size m.places (noted f p c t) ≡ size m.places f + 1 = size_noted m.places f p c t l cl free in
      record {
        sound = sound_with m (noted f p c t) ok (omega arith)
            (λ q d u h.
            ⊎_elim
            (λ (x : (q ≡ p) × (d ≡ c) × (u ≡ t)). rw x.1 cl)
            (λ (x : Other f p c q d u). ok.classes q d u (fewer q d u x.was))
            (noted_cases f p c t q d u h))
            (λ q d u h.
            ⊎_elim
            (λ (x : (q ≡ p) × (d ≡ c) × (u ≡ t)). rw (x.0, x.1, x.2) j)
            (λ (x : Other f p c q d u). ok.joins q d u (fewer q d u x.was))
            (noted_cases f p c t q d u h));
        balance = omega arith;
        limit = refl;
        places = refl;
        capacity = refl;
      }

  pub noting : (m : Memory States) (p c t : ℕ) (n : Memory States) (gone : ℕ) → Sound M m → p < m.places → c < 256 → Joins M m p c t → m.known p c ≡ None → Noted m p c t n gone → Noting m p c t n gone
  noting m p c t n gone ok l cl j free (spare few same z) =
      let P : Memory States → Type 0 = λ k. Noting m p c t k gone in
      subst P (sym same) (noted_with m m.known p c t gone ok l cl j free (λ q d u e. e) few (omega arith))
  noting m p c t n gone ok l cl j free (full many same z) =
      let P : Memory States → Type 0 = λ k. Noting m p c t k gone in
      let none : size m.places nothing ≡ 0 = size_nothing m.places in
      subst P (sym same) (noted_with m nothing p c t gone ok l cl j refl (λ q d u e. absurd (some_not u e)) (omega (arith, ok.some (omega arith))) (omega arith))

  -- a known step from a live set changes nothing
  pub known_read : (m : Memory States) (x : Read Sym States) (p t : ℕ) → M.fit x.symbol ≡ true → m.live p ≡ Some (source x) → m.known p (M.class_of x.symbol) ≡ Some t → OneRead M m x m (record { reads = 1; known = 1; built = 0; plain = 0; dropped = 0 })
  known_read m x p t fit here e = known p t 0 fit (already p here refl refl refl) e refl

  -- what a read brings
  pub record Reading (m : Memory States) (n : Memory States) (k : Counts) : Type 0 where
    pub sound : Sound M n
    pub balance : steps_known m + k.built ≡ steps_known n + k.dropped
    pub one : k.reads ≡ 1
    pub once : k.reads ≡ k.known + k.built + k.plain
    pub limit : n.limit ≡ m.limit
    pub places : n.places ≡ m.places
    pub capacity : n.capacity ≡ m.capacity
    pub unplain : 2 ≤ allowance m → k.plain ≡ 0

  few_left : (m h : Memory States) (x : Read Sym States) (r r' : Option ℕ) (g g' : ℕ) (n : Memory States) → Sound M m → Seated m (source x) None h r g → Seating M m (source x) None h r g → Seated h (target M.machine x) r n r' g' → (r ≡ None) ⊎ (r' ≡ None) → allowance m ≤ 1
  few_left m h x r r' g g' n ok s i s' (inl e) = nowhere_few M m (source x) None h r g ok s e
  few_left m h x r r' g g' n ok s i s' (inr e) = omega (arith, nowhere_few M h (target M.machine x) r n r' g' i.sound s' e, i.limit, i.places)

  module _ (law : Proper M) where
    joins_new : (j : Memory States) (x : Read Sym States) (p t : ℕ) → M.fit x.symbol ≡ true → j.live p ≡ Some (source x) → j.live t ≡ Some (target M.machine x) → Joins M j p (M.class_of x.symbol) t
    joins_new j x p t fit e f =
        record {
          direction = x.direction;
          from = x.set;
          to = leads M x.direction x.set x.symbol;
          here = e;
          there = f;
          follows = λ b fb cb. law.alike x.direction x.set b x.symbol fb fit cb;
        }

    pub reading : (m : Memory States) (x : Read Sym States) (n : Memory States) (k : Counts) → Sound M m → OneRead M m x n k → Reading m n k
    reading m x n k ok (known p t g fit s e z) =
        let P : Counts → Type 0 = λ c. Reading m n c in
        let i = seating M m (source x) None n (Some p) g ok s in
        subst P (sym z)
        record { sound = i.sound; balance = omega (arith, i.balance); one = refl; once = refl; limit = i.limit; places = i.places; capacity = i.capacity; unplain = λ _. refl }
    reading m x n k ok (built h j p t g g' g'' fit s e s' w z) =
        let P : Counts → Type 0 = λ c. Reading m n c in
        let i = seating M m (source x) None h (Some p) g ok s in
        let i' = seating M h (target M.machine x) (Some p) j (Some t) g' i.sound s' in
        let here : j.live p ≡ Some (source x) = i'.stays p (source x) refl (i.here p refl) in
        let w' = noting j p (M.class_of x.symbol) t n g'' i'.sound (i'.sound.low p (source x) here) (law.small x.symbol fit)
        (joins_new j x p t fit here (i'.here t refl)) (unknown_stays h j p (M.class_of x.symbol) i'.fewer e) w in
        subst P (sym z)
        record {
          sound = w'.sound;
          balance = omega (arith, i.balance, i'.balance, w'.balance);
          one = refl;
          once = refl;
          limit = w'.limit ∙ i'.limit ∙ i.limit;
          places = w'.places ∙ i'.places ∙ i.places;
          capacity = w'.capacity ∙ i'.capacity ∙ i.capacity;
          unplain = λ _. refl;
        }
    reading m x n k ok (plain h r r' g g' fit s u s' none z) =
        let P : Counts → Type 0 = λ c. Reading m n c in
        let i = seating M m (source x) None h r g ok s in
        let i' = seating M h (target M.machine x) r n r' g' i.sound s' in
        subst P (sym z)
        record {
          sound = i'.sound;
          balance = omega (arith, i.balance, i'.balance);
          one = refl;
          once = refl;
          limit = i'.limit ∙ i.limit;
          places = i'.places ∙ i.places;
          capacity = i'.capacity ∙ i.capacity;
          unplain = λ many. absurd (omega (arith, few_left m h x r r' g g' n ok s i s' none));
        }
