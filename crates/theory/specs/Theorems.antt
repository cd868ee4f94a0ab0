-- The theorems that the crate's contracts name: over any symbols Sym, any sets of positions Set, and any tests.
use Rattle.std.specs.Prelude.{◌≡◌, ℕ, suc, ◌-◌, ◌*◌, ◌^◌, ◌<◌, ◌≤◌, Bool, false, not, T, ◌⊎◌, ◌↔◌, List, [], ◌∷◌, ◌++◌, map, reverse, length, take, drop, Some, None, Option}
use Rattle.pattern.specs.Tree.{Tree}
use Rattle.pattern.specs.declared.Code.{Code}
use Rattle.pattern.specs.Codes.{tree}
use Rattle.theory.specs.declared.Direction.{Direction}
use Rattle.theory.specs.declared.Direction.TheVariants as way
use Rattle.theory.specs.declared.Span.{Span}
use Rattle.theory.specs.Words.{Words}
use Rattle.theory.specs.Positions.{Positions, positions, FromOne, atoms}
use Rattle.theory.specs.Steps.{Tell}
use Rattle.theory.specs.Spans.{Finds, Lists, end_of}
use Rattle.theory.specs.Machine.{Machine, Lawful, Extensional, rule}
use Rattle.theory.specs.Scans.{reach, find, list, Listing, whole}
use Rattle.theory.specs.Reads.{Read, back_reads, ahead_reads, find_reads, list_reads, whole_reads}
use Rattle.theory.specs.Masks.{holds, those, some, ahead_set, back_set, common, masks, Within}
use Rattle.theory.specs.Seal.{sealed}

-- there is one and no other
abbrev pub One : {A : Type 0} → (A → Type 0) → Type 0
One {A} F = (x : A) × F x × ((y : A) → F y → y ≡ x)

-- positions tell words; and the tree of codes is numbered as that asks
pub record Telling (Sym : Type 0) : Type 0 where
  pub tells : (passes : ℕ → Sym → Bool) (o : Option Tree) → FromOne o → Tell passes (positions o) (Words passes o)
  pub numbered : (codes : List Code) → FromOne (tree codes)

-- what a list's rest says: none is found from the last written end on, or one is, and no entry is free
abbrev pub RestSays : {Sym : Type 0} → (List Sym → Type 0) → List Sym → ℕ → ℕ → List Span → Option ℕ → Type 0
RestSays L r from entries xs None = (length xs ≤ entries) × Finds L r (end_of from xs) None
RestSays L r from entries xs (Some e) = (e ≡ end_of from xs) × (length xs ≡ entries) × ((x : Span) × Finds L r e (Some x))

-- what a find and a list have to answer is one
pub record Answering (Sym : Type 0) : Type 0 where
  pub find_one : (passes : ℕ → Sym → Bool) (o : Option Tree) → FromOne o → (r : List Sym) (from : ℕ) → One (Finds (Words passes o) r from)
  pub list_one : (passes : ℕ → Sym → Bool) (o : Option Tree) → FromOne o → (r : List Sym) (from entries : ℕ) → One (λ (l : Listing). Lists (Words passes o) r from entries l.written l.rest)
  pub list_rest : (passes : ℕ → Sym → Bool) (o : Option Tree) (r : List Sym) (from entries : ℕ) (xs : List Span) (rest : Option ℕ) → Lists (Words passes o) r from entries xs rest → RestSays (Words passes o) r from entries xs rest

-- and the scans answer it
pub record Searching (Sym Set : Type 0) (passes : ℕ → Sym → Bool) (o : Option Tree) (m : Machine Sym Set) : Type 0 where
  pub finds : (r : List Sym) (from : ℕ) → Finds (Words passes o) r from (find m r from)
  pub lists : (r : List Sym) (from entries : ℕ) → Lists (Words passes o) r from entries (list m r entries from).written (list m r entries from).rest
  pub wholes : (r : List Sym) → T (whole m r) ↔ Words passes o r

abbrev pub Searches : Type 0 → Type 0 → Type 0
Searches Sym Set = (passes : ℕ → Sym → Bool) (o : Option Tree) → FromOne o → (m : Machine Sym Set) → Lawful passes (positions o) m → Searching Sym Set passes o m

-- an ahead scan over w reads its first k symbols: the sets between are not empty, and then w ends or the set is empty
pub record ReadsAhead {Sym Set : Type 0} (m : Machine Sym Set) (S : Set) (w : List Sym) (k : ℕ) : Type 0 where
  pub within : k ≤ length w
  pub symbols : map (λ (x : Read Sym Set). x.symbol) (ahead_reads m S w) ≡ take k w
  pub between : (j : ℕ) → 0 < j → j < k → T (m.empty (reach m S (take j w))) → ⊥
  pub over : (k ≡ length w) ⊎ T (m.empty (reach m S (take k w)))

-- what is read, of any machine
pub record Reading (Sym Set : Type 0) (m : Machine Sym Set) : Type 0 where
  -- a back scan reads every symbol once, from the end to `from`
  pub back : (r : List Sym) (from : ℕ) → map (λ (x : Read Sym Set). x.symbol) (back_reads m (drop from r)) ≡ reverse (drop from r)
  pub back_exactly : (r : List Sym) (from : ℕ) → length (back_reads m (drop from r)) ≡ length r - from
  pub ahead : (S : Set) (w : List Sym) → ReadsAhead m S w (length (ahead_reads m S w))
  -- the symbol that empties the set is read, and none behind it
  pub emptied : (S : Set) (a : Sym) (w : List Sym) → T (m.empty (m.ahead S a)) → ahead_reads m S (a ∷ w) ≡ record { direction = way.Ahead; set = S; symbol = a } ∷ []
  -- without a start there is no ahead scan
  pub none : (r : List Sym) (from : ℕ) → find m r from ≡ None → find_reads m r from ≡ back_reads m (drop from r)
  pub found : (r : List Sym) (from : ℕ) (x : Span) → find m r from ≡ Some x → find_reads m r from ≡ back_reads m (drop from r) ++ ahead_reads m m.begin (drop x.start r)
  -- a list reads what its finds read; a full one makes its whole last find
  pub list_full : (r : List Sym) (from : ℕ) → list_reads m r 0 from ≡ find_reads m r from
  pub list_done : (r : List Sym) (from entries : ℕ) → find m r from ≡ None → list_reads m r entries from ≡ find_reads m r from
  pub list_next : (r : List Sym) (from entries : ℕ) (x : Span) → find m r from ≡ Some x → list_reads m r (suc entries) from ≡ find_reads m r from ++ list_reads m r entries x.end
  pub find_most : (r : List Sym) (from : ℕ) → length (find_reads m r from) ≤ 2 * (length r - from)
  pub whole_most : (r : List Sym) → length (whole_reads m r) ≤ length r

-- a pattern without words: nothing is found, no record is a word, not even an empty one, and a find still reads back
pub record Wordless {Sym Set : Type 0} (m : Machine Sym Set) : Type 0 where
  pub nothing : (r : List Sym) (from : ℕ) → find m r from ≡ None
  pub never : (r : List Sym) → whole m r ≡ false
  pub reads : (r : List Sym) (from : ℕ) → find_reads m r from ≡ back_reads m (drop from r)

abbrev pub WithoutWords : Type 0 → Type 0 → Type 0
WithoutWords Sym Set = (passes : ℕ → Sym → Bool) (m : Machine Sym Set) → Lawful passes (positions None) m → Wordless m

-- sets that are numbers: lawful at every width above the atoms, and the same at each
pub record Masking (Sym : Type 0) (passes : ℕ → Sym → Bool) : Type 0 where
  pub lawful : (o : Option Tree) (n : ℕ) → FromOne o → atoms o < n → Lawful passes (positions o) (masks n passes (positions o))
  pub extensional : (P : Positions) (n : ℕ) → Extensional (masks n passes P)
  pub any_width : (P : Positions) (n k : ℕ) → Within n P → Within k P → masks n passes P ≡ masks k passes P
  -- the members of a set are all that counts, so a step may be made on members
  pub ahead : (P : Positions) (n : ℕ) → 0 < n → (f : ℕ → Bool) (a : Sym) → (masks n passes P).ahead (those n f) a ≡ those n (ahead_set n passes P f a)
  pub back : (P : Positions) (n : ℕ) → 0 < n → (f : ℕ → Bool) (a : Sym) → (masks n passes P).back (those n f) a ≡ those n (back_set n passes P f a)
  pub first : (P : Positions) (n : ℕ) (f : ℕ → Bool) → (masks n passes P).first (those n f) ≡ common n f P.first
  pub last : (P : Positions) (n : ℕ) (f : ℕ → Bool) → (masks n passes P).last (those n f) ≡ common n f P.last
  pub empty : (P : Positions) (n : ℕ) (f : ℕ → Bool) → (masks n passes P).empty (those n f) ≡ not (some n f)
  pub members : (n : ℕ) (f : ℕ → Bool) (p : ℕ) → p < n → holds (those n f) p ≡ f p
  pub number : (n S : ℕ) (f : ℕ → Bool) → S < 2 ^ n → ((p : ℕ) → p < n → holds S p ≡ f p) → S ≡ those n f

-- the positions that are made from codes are those of their tree
abbrev pub Sealing : Type 0
Sealing = (codes : List Code) → sealed codes ≡ positions (tree codes)

-- symbols that pass the same tests lead to the same sets, in both directions
abbrev pub Alike : Type 0 → Type 0 → Type 0
Alike Sym Set =
    (passes : ℕ → Sym → Bool) (P : Positions) (m : Machine Sym Set) → Lawful passes P m → Extensional m →
    (a b : Sym) → ((p : ℕ) → passes p a ≡ passes p b) → (d : Direction) (S : Set) → rule m d S a ≡ rule m d S b
