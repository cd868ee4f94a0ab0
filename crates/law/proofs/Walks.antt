-- A row of reads keeps a memory sound, and is counted read by read.
use Rattle.std.proofs.Common.{◌≡◌, ◌+◌, ◌≤◌, List, [], ◌∷◌, ◌++◌, length, sym, refl, ap, ◌∙◌, subst, add-zero, add_assoc, zero-add, arith}
use Rattle.theory.specs.Reads.{Read}
use Rattle.law.specs.Subject.{Subject, Proper}
use Rattle.law.specs.Memory.{Memory, allowance, steps_known, Sound}
use Rattle.law.specs.Reading.{Counts, zeros, both, OneRead, Walk}
use Rattle.law.proofs.Readings.{Reading, reading}

both_assoc : (a b c : Counts) → both (both a b) c ≡ both a (both b c)
both_assoc a b c = simp add_assoc

both_zeros : (a : Counts) → both a zeros ≡ a
both_zeros a = simp add-zero

zeros_both : (a : Counts) → both zeros a ≡ a
zeros_both a = simp zero-add

module _ {Sym States : Type 0} (M : Subject Sym States) where
  pub walk_append : (m : Memory States) (xs : List (Read Sym States)) (k : Memory States) (a : Counts) (ys : List (Read Sym States)) (n : Memory States) (b : Counts) → Walk M m xs k a → Walk M k ys n b → Walk M m (xs ++ ys) n (both a b)
  walk_append m [] k a ys n b (e, z) w = let P : Memory States → Type 0 = λ j. Walk M j ys n b in let Q : Counts → Type 0 = λ q. Walk M m ys n q in subst Q (sym (zeros_both b) ∙ ap (λ q. both q b) (sym z)) (subst P e w)
  walk_append m (x ∷ xs) k a ys n b (j, (p, (q, (s, v, e)))) w = (j, (p, (both q b, (s, walk_append j xs k q ys n b v w, ap (λ c. both c b) e ∙ both_assoc p q b))))

  pub walk_one : (m : Memory States) (x : Read Sym States) (n : Memory States) (a : Counts) → OneRead M m x n a → Walk M m (x ∷ []) n a
  walk_one m x n a s = (n, (a, (zeros, (s, (refl, refl), sym (both_zeros a)))))

  pub walk_snoc : (m : Memory States) (xs : List (Read Sym States)) (k : Memory States) (a : Counts) (x : Read Sym States) (n : Memory States) (b : Counts) → Walk M m xs k a → OneRead M k x n b → Walk M m (xs ++ (x ∷ [])) n (both a b)
  walk_snoc m xs k a x n b w s = walk_append m xs k a (x ∷ []) n b w (walk_one k x n b s)

  -- what a row of reads brings
  pub record Walking (m : Memory States) (xs : List (Read Sym States)) (n : Memory States) (k : Counts) : Type 0 where
    pub sound : Sound M n
    pub balance : steps_known m + k.built ≡ steps_known n + k.dropped
    pub reads : k.reads ≡ length xs
    pub once : k.reads ≡ k.known + k.built + k.plain
    pub limit : n.limit ≡ m.limit
    pub places : n.places ≡ m.places
    pub capacity : n.capacity ≡ m.capacity
    pub unplain : 2 ≤ allowance m → k.plain ≡ 0

  walked : (m : Memory States) → Sound M m → Walking m [] m zeros
  walked m ok = record { sound = ok; balance = refl; reads = refl; once = refl; limit = refl; places = refl; capacity = refl; unplain = λ _. refl }

  one_more : (m : Memory States) (x : Read Sym States) (xs : List (Read Sym States)) (j n : Memory States) (a b : Counts) → Reading M m j a → Walking j xs n b → Walking m (x ∷ xs) n (both a b)
  one_more m x xs j n a b r w =
      record {
        sound = w.sound;
        balance = omega (arith, r.balance, w.balance);
        reads = omega (arith, r.one, w.reads);
        once = omega (arith, r.once, w.once);
        limit = w.limit ∙ r.limit;
        places = w.places ∙ r.places;
        capacity = w.capacity ∙ r.capacity;
        unplain = λ many. omega (arith, r.unplain many, w.unplain (omega (arith, r.limit, r.places)));
      }

  module _ (law : Proper M) where
    pub walking : (m : Memory States) (xs : List (Read Sym States)) (n : Memory States) (k : Counts) → Sound M m → Walk M m xs n k → Walking m xs n k
    walking m [] n k ok (e, z) =
        let P : Memory States → Type 0 = λ j. Walking m [] j k in
        let Q : Counts → Type 0 = λ c. Walking m [] m c in
        subst P (sym e) (subst Q (sym z) (walked m ok))
    walking m (x ∷ xs) n k ok (j, (a, (b, (s, w, z)))) =
        let r = reading M law m x j a ok s in
        let Q : Counts → Type 0 = λ c. Walking m (x ∷ xs) n c in
        subst Q (sym z) (one_more m x xs j n a b r (walking j xs n b r.sound w))
