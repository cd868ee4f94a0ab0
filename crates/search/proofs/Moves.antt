-- One read, put together from its seatings.
use Rattle.std.proofs.Common.{◌≡◌, ℕ, ◌+◌, ◌<◌, true, ◌⊎◌, List, get_or, IfSome, Some, None, Option, sym, refl, ap, ◌∙◌, subst, arith, MatchOption}
use Rattle.sets.specs.Members.{Members}
use Rattle.sets.specs.Positions.{PositionSet}
use Rattle.memory.specs.Steps.{Map, Bounds, size}
use Rattle.theory.specs.declared.Direction.{Direction}
use Rattle.theory.specs.Reads.{State}
use Rattle.law.specs.Subject.{Subject, leads, Proper}
use Rattle.law.specs.Memory.{Memory, Seated, Noted, spare, full, Sound}
use Rattle.law.specs.Reading.{Unknown, known, built, plain}
use Rattle.law.proofs.Maps.{some_same}
use Rattle.law.proofs.Seats.{Seating, seating}
use Rattle.law.proofs.Readings.{unknown_stays}
use Rattle.search.specs.declared.scanner.Cursor.{Cursor}
use Rattle.search.specs.declared.scanner.Move.{Move}
use Rattle.search.specs.Counted.{tallied}
use Rattle.search.specs.Remembered.{no_set, state, lives, Notable, Moved}
use Rattle.search.proofs.Views.{is_here}

pub known_of : (m : Memory PositionSet) (place : Option ℕ) (p c : ℕ) (o : Option ℕ) → place ≡ Some p → o ≡ m.known p c → MatchOption o (Unknown m place c) (λ t. (p' : ℕ) × (place ≡ Some p') × (m.known p' c ≡ Some t))
known_of m place p c None e h = let P : Option ℕ → Type 0 = λ x. Unknown m x c in subst P (sym e) (sym h)
known_of m place p c (Some q) e h = (p, e, sym h)

pub low_of : (n m : ℕ) (f : Map) (p c : ℕ) (o : Option ℕ) → Bounds n m f → o ≡ f p c → IfSome o (λ t. t < 64)
low_of n m f p c None b h = tt
low_of n m f p c (Some q) b h = omega (arith, (b.within p c q (sym h)).2, b.few)

pub gone_of : (gone r n n' k : ℕ) (f f' : Map) → gone ≡ r → n' ≡ n → f ≡ f' → r + size n' f' ≡ k → gone + size n f ≡ k
gone_of gone r n n' k f f' e a b z = rw (e, sym a, b) z

noted_live : (m : Memory PositionSet) (p c t : ℕ) (n : Memory PositionSet) (gone : ℕ) → Noted m p c t n gone → n.live ≡ m.live
noted_live m p c t n gone (spare few same z) = ap (λ (x : Memory PositionSet). x.live) same
noted_live m p c t n gone (full many same z) = ap (λ (x : Memory PositionSet). x.live) same

module _ {Sym : Type 0} (X : Subject Sym PositionSet) where
  -- the place of a known step's target holds the set of the step rule
  pub known_target : (m : Memory PositionSet) (d : Direction) (S : PositionSet) (a : Sym) (p t : ℕ) → Sound X m → X.fit a ≡ true → m.live p ≡ Some (state d S) → m.known p (X.class_of a) ≡ Some t → m.live t ≡ Some (state d (leads X d S a))
  known_target m d S a p t ok fit here e =
      let j = ok.joins p (X.class_of a) t e in
      let s : state j.direction j.from ≡ state d S = some_same _ _ (sym j.here ∙ here) in
      let D : j.direction ≡ d = ap (λ (x : State PositionSet). x.direction) s in
      let F : j.from ≡ S = ap (λ (x : State PositionSet). x.set) s in
      j.there ∙ ap (λ x. Some (state j.direction x)) (sym (j.follows a fit refl)) ∙ ap (λ x. Some (state x (leads X x j.from a))) D ∙ ap (λ x. Some (state d (leads X d x a))) F

  pub known_moved : (m h n : Memory PositionSet) (live back : Members) (sets : List PositionSet) (d : Direction) (S : PositionSet) (a : Sym) (r : Option ℕ) (g c p t : ℕ) (move : Move) → Sound X m → X.fit a ≡ true → c ≡ X.class_of a → Seated m (state d S) None h r g → r ≡ Some p → n ≡ h → h.known p c ≡ Some t → h.live ≡ lives live sets back → move.cursor.set ≡ get_or sets t no_set → move.cursor.place ≡ Some t → tallied move.counts ≡ record { reads = 1; known = 1; built = 0; plain = 0; dropped = g } → Moved X m d S a n move
  known_moved m h n live back sets d S a r g c p t move ok fit cl s e same k l at to z =
      let i = seating X m (state d S) None h r g ok s in
      let there = known_target h d S a p t i.sound fit (i.here p e) (ap (h.known p) (sym cl) ∙ k) in
      let B : Memory PositionSet → Type 0 = λ y. Seated m (state d S) None y (Some p) g in
      let A : Option ℕ → Type 0 = λ y. Seated m (state d S) None h y g in
      let K : Memory PositionSet → Type 0 = λ y. y.known p c ≡ Some t in
      let L : Memory PositionSet → Type 0 = λ y. y.live t ≡ Some (state d (leads X d S a)) in
      let set : move.cursor.set ≡ leads X d S a = at ∙ (is_here live back sets t (leads X d S a) d (ap (λ f. f t) (sym l) ∙ there)).holds in
      record {
        one = known p t g fit (subst B (sym same) (subst A e s)) (ap (n.known p) (sym cl) ∙ subst K (sym same) k) z;
        to = set;
        at = λ q h. ap n.live (some_same q t (sym h ∙ to)) ∙ subst L (sym same) there ∙ ap (λ x. Some (state d x)) (sym set);
      }

  unknown_at : (h : Memory PositionSet) (r : Option ℕ) (p c : ℕ) → r ≡ Some p → Unknown h r c → h.known p c ≡ None
  unknown_at h r p c e u = let P : Option ℕ → Type 0 = λ x. Unknown h x c in subst P e u

  pub plain_moved : (m h n : Memory PositionSet) (d : Direction) (S T : PositionSet) (a : Sym) (r r' : Option ℕ) (g g' c : ℕ) (move : Move) → Sound X m → X.fit a ≡ true → c ≡ X.class_of a → T ≡ leads X d S a → Seated m (state d S) None h r g → Unknown h r c → Seated h (state d T) r n r' g' → (r ≡ None) ⊎ (r' ≡ None) → move.cursor ≡ record { set = T; place = r' } → tallied move.counts ≡ record { reads = 1; known = 0; built = 0; plain = 1; dropped = g + g' } → Moved X m d S a n move
  plain_moved m h n d S T a r r' g g' c move ok fit cl tl s u s' lost at z =
      let P : ℕ → Type 0 = λ y. Unknown h r y in
      let Q : PositionSet → Type 0 = λ y. Seated h (state d y) r n r' g' in
      let i = seating X m (state d S) None h r g ok s in
      let i' = seating X h (state d T) r n r' g' i.sound s' in
      let set : move.cursor.set ≡ T = ap (λ (x : Cursor). x.set) at in
      record {
        one = plain h r r' g g' fit s (subst P cl u) (subst Q tl s') lost z;
        to = set ∙ tl;
        at = λ q e. i'.here q (sym (ap (λ (x : Cursor). x.place) at) ∙ e) ∙ ap (λ x. Some (state d x)) (sym set);
      }

  module _ (law : Proper X) where
    notable : (m h j : Memory PositionSet) (d : Direction) (S T : PositionSet) (a : Sym) (r r' : Option ℕ) (g g' c p t : ℕ) → X.fit a ≡ true → c ≡ X.class_of a → Seating X m (state d S) None h r g → Unknown h r c → Seating X h (state d T) r j r' g' → r ≡ Some p → r' ≡ Some t → Notable j p c t
    notable m h j d S T a r r' g g' c p t fit cl i u i' e e' =
        let l = i'.sound.low p (state d S) (i'.stays p (state d S) e (i.here p e)) in
        record {
          from = l;
          to = i'.sound.low t (state d T) (i'.here t e');
          class = omega (arith, law.small a fit);
          unknown = unknown_stays h j p c i'.fewer (unknown_at h r p c e u);
          some = i'.sound.some (omega arith);
        }

    pub built_moved : (m h j n : Memory PositionSet) (d : Direction) (S T : PositionSet) (a : Sym) (r r' : Option ℕ) (g g' g'' c p t : ℕ) (move : Move) → Sound X m → X.fit a ≡ true → c ≡ X.class_of a → T ≡ leads X d S a → Seated m (state d S) None h r g → Unknown h r c → Seated h (state d T) r j r' g' → r ≡ Some p → r' ≡ Some t → (Notable j p c t → Noted j p c t n g'') → move.cursor ≡ record { set = T; place = r' } → tallied move.counts ≡ record { reads = 1; known = 0; built = 1; plain = 0; dropped = g + g' + g'' } → Moved X m d S a n move
    built_moved m h j n d S T a r r' g g' g'' c p t move ok fit cl tl s u s' e e' w at z =
        let A : Option ℕ → Type 0 = λ y. Seated m (state d S) None h y g in
        let B : Option ℕ → Type 0 = λ y. Seated h (state d T) y j r' g' in
        let C : Option ℕ → Type 0 = λ y. Seated h (state d T) (Some p) j y g' in
        let D : PositionSet → Type 0 = λ y. Seated h (state d y) (Some p) j (Some t) g' in
        let E : ℕ → Type 0 = λ y. Noted j p y t n g'' in
        let i = seating X m (state d S) None h r g ok s in
        let i' = seating X h (state d T) r j r' g' i.sound s' in
        let o : Noted j p c t n g'' = w (notable m h j d S T a r r' g g' c p t fit cl i u i' e e') in
        let set : move.cursor.set ≡ T = ap (λ (x : Cursor). x.set) at in
        record {
          one = built h j p t g g' g'' fit (subst A e s) (ap (h.known p) (sym cl) ∙ unknown_at h r p c e u) (subst D tl (subst C e' (subst B e s'))) (subst E cl o) z;
          to = set ∙ tl;
          at = λ q f. ap (λ l. l q) (noted_live j p c t n g'' o) ∙ i'.here q (sym (ap (λ (x : Cursor). x.place) at) ∙ f) ∙ ap (λ x. Some (state d x)) (sym set);
        }
