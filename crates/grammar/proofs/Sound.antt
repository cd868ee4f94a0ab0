-- What the reader has read is a partial derivation; so what it accepts is a pattern.
use Rattle.std.proofs.Common.{◌≡◌, ℕ, zero, suc, Bool, true, false, List, [], ◌∷◌, ◌++◌, sym, refl, ap, ◌∙◌, subst, append_assoc, append-nil, arith}
use Rattle.items.specs.declared.Item.{Item}
use Rattle.items.specs.declared.Sign.{Sign}
use Rattle.items.specs.declared.Placed.{Placed}
use Rattle.pattern.specs.declared.Code.{Code}
use Rattle.refusal.specs.declared.Cause.{Cause}
use Rattle.grammar.specs.declared.frame.Repeats.{Repeats}
use Rattle.grammar.specs.declared.frame.Repeats.TheVariants.{Empty, One, Many}
use Rattle.grammar.specs.declared.frame.Frame.{Frame}
use Rattle.grammar.specs.Grammar.{at, Pattern, Chain, Repeat}
use Rattle.grammar.specs.Grammar.Pattern.{chain, choice}
use Rattle.grammar.specs.Grammar.Chain.{repeat, join}
use Rattle.grammar.specs.Grammar.Repeat.{unit, star, plus, maybe}
use Rattle.grammar.specs.Grammar.Single.{atom, group}
use Rattle.grammar.specs.Parse.{Outcome, State, Step, framed, state, more, grown, joins, choices, ends, operand, opened, closed, done, step, after, run}
use Rattle.grammar.specs.Parse.Outcome.{accepted, refused}
use Rattle.grammar.specs.Parse.Step.{go, wrong}
use Rattle.grammar.proofs.Complete.{Filled, wants}

-- the branches before the chain
data Head (n : ℕ) : Bool → List Placed → List Code → Type 0 where
  first : Head n false [] []
  later : {w : List Placed} {c : List Code} → Pattern n w c → (p : ℕ) → Head n true (w ++ at (Item.Sign Sign.Bar) p ∷ []) c

-- the chain before its last repeat
data Before (n : ℕ) : Repeats → List Placed → List Code → Type 0 where
  none : Before n One [] []
  some : {w : List Placed} {c : List Code} → Chain n w c → Before n Many w c

-- the chain; its last join is not yet there
data Body (n : ℕ) : Repeats → List Placed → List Code → Type 0 where
  empty : Body n Empty [] []
  one : {w : List Placed} {c : List Code} → Repeat n w c → Body n One w c
  many : {u v : List Placed} {a b : List Code} → Chain n u a → Repeat n v b → Body n Many (u ++ v) (a ++ b)

-- the patterns around; each lacks the repeat that is being read
data Stack (top : ℕ) : ℕ → List Frame → List Placed → List Code → Type 0 where
  base : Stack top top [] [] []
  push : {n : ℕ} {st : List Frame} {w u v : List Placed} {o a b : List Code} {f : Frame}
      → Stack top (suc n) st w o → Head (suc n) f.branches u a → Before (suc n) f.repeats v b → (p : ℕ)
      → Stack top n (f ∷ st) (w ++ u ++ v ++ at (Item.Sign Sign.Open) p ∷ []) (o ++ a ++ b)

chain_of : {n : ℕ} {k : Repeats} {w : List Placed} {c : List Code} → Body n k w c → Filled k → Chain n w (c ++ joins k)
chain_of empty h = absurd h
chain_of (one r) h = rw append-nil (repeat r)
chain_of (many l r) h = join l r

before : {n : ℕ} {k : Repeats} {w : List Placed} {c : List Code} → Body n k w c → Before n (more k) w (c ++ joins k)
before empty = none
before (one r) = rw append-nil (some (repeat r))
before (many l r) = some (join l r)

fill : {n : ℕ} {k : Repeats} {u v : List Placed} {a b : List Code} → Before n k u a → Repeat n v b → Body n k (u ++ v) (a ++ b)
fill none r = one r
fill (some l) r = many l r

signed : {n : ℕ} {k : Repeats} {w : List Placed} {c : List Code} (x : Placed) (d : Code) → Body n k w c → Filled k
    → ((v : List Placed) (b : List Code) → Repeat n v b → Repeat n (v ++ x ∷ []) (b ++ d ∷ [])) → Body n k (w ++ x ∷ []) (c ++ d ∷ [])
signed x d empty h grow = absurd h
signed x d (one r) h grow = one (grow _ _ r)
signed x d (many l r) h grow = rw (append_assoc, append_assoc) (many l (grow _ _ r))

pattern_of : {n : ℕ} {b : Bool} {k : Repeats} {u v : List Placed} {a c : List Code} → Head n b u a → Body n k v c → Filled k
    → Pattern n (u ++ v) (a ++ c ++ (joins k ++ choices b))
pattern_of {k} first y h = rw append-nil (chain (chain_of y h))
pattern_of {k} {c} (later {w} {c = a} x p) y h = simp append_assoc (simp append_assoc at (choice x p (chain_of y h)))

-- what has been read: the text is what the patterns around have, the branches, the chain, and what is left
record Holds (top : ℕ) (t : List Placed) (s : State) (xs : List Placed) : Type 0 where
  w : List Placed
  u : List Placed
  v : List Placed
  o : List Code
  a : List Code
  c : List Code
  around : Stack top s.room s.around w o
  head : Head s.room s.frame.branches u a
  body : Body s.room s.frame.repeats v c
  codes : s.codes ≡ o ++ a ++ c
  text : t ≡ w ++ u ++ v ++ xs

abbrev Good : ℕ → List Placed → Step → List Placed → Type 0
Good top t (go s) xs = Holds top t s xs
Good top t (wrong c) xs = Unit {0}

wanted : (top : ℕ) (t : List Placed) (k : Repeats) (s : Step) (xs : List Placed) → (Filled k → Good top t s xs) → Good top t (operand k s) xs
wanted top t Empty s xs h = tt
wanted top t One s xs h = h tt
wanted top t Many s xs h = h tt

module _ (top : ℕ) (t : List Placed) where
  opens : (n : ℕ) (cs : List Code) (f : Frame) (st : List Frame) (p : ℕ) (xs : List Placed) → Holds top t (state n cs f st) (at (Item.Sign Sign.Open) p ∷ xs) → Good top t (opened n cs f st) xs
  opens zero cs f st p xs h = tt
  opens (suc n) cs f st p xs h =
      record {
        w = h.w ++ h.u ++ h.v ++ at (Item.Sign Sign.Open) p ∷ [];
        u = [];
        v = [];
        o = h.o ++ h.a ++ (h.c ++ joins f.repeats);
        a = [];
        c = [];
        around = push {f = grown f} h.around h.head (before h.body) p;
        head = first;
        body = empty;
        codes = ap (λ z. z ++ joins f.repeats) h.codes ∙ simp (append_assoc, append-nil);
        text = h.text ∙ simp (append_assoc, append-nil);
      }

  closes : (n : ℕ) (f : Frame) (st : List Frame) (cs : List Code) (p : ℕ) (xs w u v : List Placed) (o a c : List Code)
      → Stack top n st w o → Head n f.branches u a → Body n f.repeats v c → cs ≡ o ++ a ++ c → t ≡ w ++ u ++ v ++ at (Item.Sign Sign.Close) p ∷ xs → Filled f.repeats → Good top t (closed n (cs ++ ends f) st) xs
  closes n f st cs p xs w u v o a c base y z e q h = tt
  closes n f st cs p xs w u v o a c (push {st = st'} {w = w'} {u = u'} {v = v'} {o = o'} {a = a'} {b = b'} {f = f'} s x b r) y z e q h =
      record {
        w = w';
        u = u';
        v = v' ++ (at (Item.Sign Sign.Open) r ∷ u ++ v ++ at (Item.Sign Sign.Close) p ∷ []);
        o = o';
        a = a';
        c = b' ++ (a ++ c ++ ends f);
        around = s;
        head = x;
        body = fill b (unit (group r p (pattern_of y z h)));
        codes = ap (λ z. z ++ ends f) e ∙ simp append_assoc;
        text = q ∙ simp append_assoc;
      }

  sign_held : (x : Placed) (d : Code) (s : State) (xs : List Placed) → Holds top t s (x ∷ xs) → Filled s.frame.repeats
      → ((v : List Placed) (b : List Code) → Repeat s.room v b → Repeat s.room (v ++ x ∷ []) (b ++ d ∷ [])) → Holds top t (state s.room (s.codes ++ d ∷ []) s.frame s.around) xs
  sign_held x d s xs h f grow =
      record {
        w = h.w;
        u = h.u;
        v = h.v ++ x ∷ [];
        o = h.o;
        a = h.a;
        c = h.c ++ d ∷ [];
        around = h.around;
        head = h.head;
        body = signed x d h.body f grow;
        codes = ap (λ z. z ++ d ∷ []) h.codes ∙ simp append_assoc;
        text = h.text ∙ simp append_assoc;
      }

  keeps : (i : Item) (p : ℕ) (s : State) (xs : List Placed) → Holds top t s (at i p ∷ xs) → Good top t (step s i) xs
  keeps Item.Atom p s xs h =
      record {
        w = h.w;
        u = h.u;
        v = h.v ++ at Item.Atom p ∷ [];
        o = h.o;
        a = h.a;
        c = h.c ++ joins s.frame.repeats ++ Code.Atom ∷ [];
        around = h.around;
        head = h.head;
        body = fill (before h.body) (unit (atom p));
        codes = ap (λ z. z ++ joins s.frame.repeats ++ Code.Atom ∷ []) h.codes ∙ simp append_assoc;
        text = h.text ∙ simp append_assoc;
      }
  keeps (Item.Sign Sign.Open) p s xs h = opens s.room s.codes s.frame s.around p xs h
  keeps (Item.Sign Sign.Close) p s xs h =
      wanted top t s.frame.repeats (closed s.room (s.codes ++ ends s.frame) s.around) xs
      (closes s.room s.frame s.around s.codes p xs h.w h.u h.v h.o h.a h.c h.around h.head h.body h.codes h.text)
  keeps (Item.Sign Sign.Bar) p s xs h =
      wanted top t s.frame.repeats (go (state s.room (s.codes ++ ends s.frame) (framed true Empty) s.around)) xs λ f.
      record {
        w = h.w;
        u = h.u ++ h.v ++ at (Item.Sign Sign.Bar) p ∷ [];
        v = [];
        o = h.o;
        a = h.a ++ h.c ++ ends s.frame;
        c = [];
        around = h.around;
        head = later (pattern_of h.head h.body f) p;
        body = empty;
        codes = ap (λ z. z ++ ends s.frame) h.codes ∙ simp (append_assoc, append-nil);
        text = h.text ∙ simp (append_assoc, append-nil);
      }
  keeps (Item.Sign Sign.Star) p s xs h =
      wanted top t s.frame.repeats (go (state s.room (s.codes ++ Code.Star ∷ []) s.frame s.around)) xs λ f.
      sign_held (at (Item.Sign Sign.Star) p) Code.Star s xs h f (λ v b r. star r p)
  keeps (Item.Sign Sign.Plus) p s xs h =
      wanted top t s.frame.repeats (go (state s.room (s.codes ++ Code.Plus ∷ []) s.frame s.around)) xs λ f.
      sign_held (at (Item.Sign Sign.Plus) p) Code.Plus s xs h f (λ v b r. plus r p)
  keeps (Item.Sign Sign.Query) p s xs h =
      wanted top t s.frame.repeats (go (state s.room (s.codes ++ Code.Maybe ∷ []) s.frame s.around)) xs λ f.
      sign_held (at (Item.Sign Sign.Query) p) Code.Maybe s xs h f (λ v b r. maybe r p)

  -- a refusal is no acceptance
  other : {A : Type 0} (k : Cause) (p : ℕ) (cs : List Code) → refused k p ≡ accepted cs → A
  other k p cs e = let z : ◌≡◌ {A = ℕ} 0 1 = cc in let no : ⊥ = omega arith in absurd no

  ended : (len n : ℕ) (f : Frame) (st : List Frame) (cs ds : List Code) (w u v : List Placed) (o a c : List Code)
      → Stack top n st w o → Head n f.branches u a → Body n f.repeats v c → cs ≡ o ++ a ++ c → t ≡ w ++ u ++ v ++ [] → Filled f.repeats
      → after (done (state n (cs ++ ends f) f st) st) len (λ t. accepted t.codes) ≡ accepted ds → Pattern top t ds
  ended len n f st cs ds w u v o a c base y z e q h r =
      let p = pattern_of y z h in
      let d : a ++ c ++ ends f ≡ ds = ap (λ x. x ++ ends f) (sym e) ∙ cc in
      let same : u ++ v ≡ t = sym (append-nil (u ++ v)) ∙ sym q in
      subst (λ x. Pattern top x ds) same (subst (Pattern top (u ++ v)) d p)
  ended len n f st cs ds w u v o a c (push s x b p) y z e q h r = other Cause.UnclosedGroup len ds r

  filled_of : (k : Repeats) (d : Step) (len : ℕ) (next : State → Outcome) (ds : List Code) → after (operand k d) len next ≡ accepted ds → Filled k
  filled_of Empty d len next ds e = other Cause.MissingOperand len ds e
  filled_of One d len next ds e = tt
  filled_of Many d len next ds e = tt

  onward : (d : Step) (len p : ℕ) (xs : List Placed) (ds : List Code) → Good top t d xs → after d p (λ s. run len s xs) ≡ accepted ds
      → ((s : State) → Holds top t s xs → run len s xs ≡ accepted ds → Pattern top t ds) → Pattern top t ds
  onward (go s) len p xs ds g e rest = rest s g e
  onward (wrong k) len p xs ds g e rest = other k p ds e

  sound : (len : ℕ) (xs : List Placed) (ds : List Code) (s : State) → Holds top t s xs → run len s xs ≡ accepted ds → Pattern top t ds
  sound len [] ds s h e =
      let d = done (state s.room (s.codes ++ ends s.frame) s.frame s.around) s.around in
      let f = filled_of s.frame.repeats d len (λ t. accepted t.codes) ds e in
      ended len s.room s.frame s.around s.codes ds h.w h.u h.v h.o h.a h.c h.around h.head h.body h.codes h.text f
      (sym (wants len s.frame.repeats d len (λ t. accepted t.codes) f) ∙ e)
  sound len (x ∷ xs) ds s h e = onward (step s x.item) len x.place xs ds (keeps x.item x.place s xs h) e (sound len xs ds)

-- what the reader accepts is a pattern, with those codes
pub accepted_is : (n len : ℕ) (xs : List Placed) (ds : List Code) → run len (state n [] (framed false Empty) []) xs ≡ accepted ds → Pattern n xs ds
accepted_is n len xs ds e =
    sound n xs len xs ds (state n [] (framed false Empty) [])
    (record { w = []; u = []; v = []; o = []; a = []; c = []; around = base; head = first; body = empty; codes = refl; text = refl })
    e
