-- Small patterns over bytes: what the definitions give there, and how every searcher counts them.
use Rattle.std.specs.Prelude.{◌≡◌, ℕ, zero, suc, ◌<◌, ◌≤◌, Bool, true, false, cond, List, [], ◌∷◌, length, Some, None, ◌==◌, nat_lt, slice_index_or}
use Rattle.pattern.specs.Tree.{Tree}
use Rattle.pattern.specs.Tree.Tree.{atom, join, star}
use Rattle.refusal.specs.declared.Cause.TheVariants.{FromPastEnd, LimitTooLarge}
use Rattle.law.specs.Subject.{Subject}
use Rattle.law.specs.Memory.{Memory, opened}
use Rattle.law.specs.Calls.{Query, Find, Lists, Whole, Request, Search, Limit, Found, Listed, Told, Answer, Searched, Dropped, refusal, Series}
use Rattle.law.specs.Met.{number_of_sets, number_of_steps}
use Rattle.law.specs.Law.{define, finds, refuses}
use Rattle.law.specs.Alphabets.{masked}

-- atom p passes the p-th byte of the row
abbrev pub byte_at : List ℕ → ℕ → ℕ → Bool
byte_at row zero b = false
byte_at row (suc p) b = b == slice_index_or row p 256

-- each byte of the row is a class, numbered from k on, and all others are the class 0
abbrev pub class_from : ℕ → List ℕ → ℕ → ℕ
class_from k [] b = 0
class_from k (x ∷ row) b = cond (b == x) k (class_from (suc k) row b)

abbrev pub bytes : List ℕ → Tree → Subject ℕ ℕ
bytes row t = masked (suc (length row)) (byte_at row) (Some t) (λ b. nat_lt b 256) (class_from 1 row)

-- ab*
abbrev pub ab : Subject ℕ ℕ
ab = bytes (97 ∷ 98 ∷ []) (join (atom 1) (star (atom 2)))

abbrev pub a : Subject ℕ ℕ
a = bytes (97 ∷ []) (atom 1)

-- a*
abbrev pub many : Subject ℕ ℕ
many = bytes (97 ∷ []) (star (atom 1))

-- find in "abb" from 0
abbrev pub abb : Query ℕ
abb = Find (97 ∷ 98 ∷ 98 ∷ []) 0

abbrev pub counted : (known built plain dropped : ℕ) → Answer
counted known built plain dropped = Searched (Found (Some (record { start = 0; end = 3 }))) (record { reads = 6; known = known; built = built; plain = plain; dropped = dropped })

-- on every searcher that was opened on such a shelf, whatever its policy, the requests get these answers
abbrev pub Always : (places capacity : ℕ) → List (Request ℕ) → List Answer → Type 0
Always places capacity cs answers =
    places ≤ 64 → (rs : List Answer) (n : Memory ℕ) → Series ab (opened places capacity) cs rs n → rs ≡ answers

pub record Trials : Type 0 where
  -- ab* in "abb"
  pub found : define ab abb ≡ finds (Found (Some (record { start = 0; end = 3 }))) 6
  pub steps : number_of_steps ab (Search abb ∷ []) ≡ 6
  pub sets : number_of_sets ab (Search abb ∷ []) ≡ 6
  pub again : number_of_steps ab (Search abb ∷ Search abb ∷ []) ≡ 6
  -- built at first, and known when repeated, where the shelf has room
  pub roomy : (places capacity : ℕ) → 6 ≤ places → 6 ≤ capacity → Always places capacity (Search abb ∷ Search abb ∷ []) (counted 0 6 0 0 ∷ counted 6 0 0 0 ∷ [])
  -- at the limit 1
  pub alone : (places capacity : ℕ) → 0 < places → 0 < capacity → Always places capacity (Limit 1 ∷ Search abb ∷ []) (Dropped 0 ∷ counted 0 2 4 1 ∷ [])
  -- a in "aaa", two entries
  pub lists : define a (Lists (97 ∷ 97 ∷ 97 ∷ []) 0 2) ≡ finds (Listed (record { start = 0; end = 1 } ∷ record { start = 1; end = 2 } ∷ []) (Some 2)) 11
  -- a* in "bb", and the whole of an empty record
  pub none : define many (Find (98 ∷ 98 ∷ []) 0) ≡ finds (Found None) 2
  pub empty : define many (Whole []) ≡ finds (Told true) 0
  -- limits 0 and 64 are accepted, 65 is refused
  pub least : refusal {Sym = ℕ} (Limit 0) ≡ None
  pub most : refusal {Sym = ℕ} (Limit 64) ≡ None
  pub above : refusal {Sym = ℕ} (Limit 65) ≡ Some (record { cause = LimitTooLarge; place = 0 })
  -- from the end, and from a place past it
  pub end : define many (Find [] 0) ≡ finds (Found None) 0
  pub past : define many (Find [] 1) ≡ refuses (record { cause = FromPastEnd; place = 0 })
