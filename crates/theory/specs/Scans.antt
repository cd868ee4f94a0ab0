-- Find, list and whole by scans, over any sets of positions.
use Rattle.std.specs.Prelude.{ℕ, zero, suc, Bool, false, cond, List, [], ◌∷◌, drop, Some, None, Option}
use Rattle.theory.specs.declared.Span.{Span}
use Rattle.theory.specs.Machine.{Machine}

-- the set that w leads to, ahead from S
abbrev pub reach : {Sym Set : Type 0} → Machine Sym Set → Set → List Sym → Set
reach m S [] = S
reach m S (a ∷ w) = reach m (m.ahead S a) w

-- the set that w leads to, back from its end
abbrev pub backs : {Sym Set : Type 0} → Machine Sym Set → List Sym → Set
backs m [] = m.begin
backs m (a ∷ w) = m.back (backs m w) a

-- the smallest place at which the set of the back scan holds a first position; w begins at i
abbrev pub start : {Sym Set : Type 0} → Machine Sym Set → ℕ → List Sym → Option ℕ
start m i [] = None
start m i (a ∷ w) = cond (m.first (backs m (a ∷ w))) (Some i) (start m (suc i) w)

-- the end behind the furthest symbol at which the set of the ahead scan held a last position, or b; w begins at i
abbrev pub far : {Sym Set : Type 0} → Machine Sym Set → ℕ → ℕ → Set → List Sym → ℕ
far m b i S [] = b
far m b i S (a ∷ w) = cond (m.empty (m.ahead S a)) b (far m (cond (m.last (m.ahead S a)) (suc i) b) (suc i) (m.ahead S a) w)

-- without a start there is no ahead scan
abbrev pub from_start : {Sym Set : Type 0} → Machine Sym Set → List Sym → Option ℕ → Option Span
from_start m r None = None
from_start m r (Some s) = Some (record { start = s; end = far m s s m.begin (drop s r) })

abbrev pub find : {Sym Set : Type 0} → Machine Sym Set → List Sym → ℕ → Option Span
find m r from = from_start m r (start m from (drop from r))

-- what a list wrote, and its rest
pub record Listing : Type 0 where
  pub written : List Span
  pub rest : Option ℕ

-- what was found, with no entry free, and with one; `further` lists on from an end
abbrev pub no_entry : ℕ → Option Span → Listing
no_entry from None = record { written = []; rest = None }
no_entry from (Some x) = record { written = []; rest = Some from }

abbrev pub one_entry : Option Span → (ℕ → Listing) → Listing
one_entry None further = record { written = []; rest = None }
one_entry (Some x) further = record { written = x ∷ (further x.end).written; rest = (further x.end).rest }

abbrev pub list : {Sym Set : Type 0} → Machine Sym Set → List Sym → ℕ → ℕ → Listing
list m r zero from = no_entry from (find m r from)
list m r (suc entries) from = one_entry (find m r from) (list m r entries)

-- whether all of w is read from S before a set is empty, and the set then holds a last position
abbrev pub run : {Sym Set : Type 0} → Machine Sym Set → Set → List Sym → Bool
run m S [] = m.last S
run m S (a ∷ w) = cond (m.empty (m.ahead S a)) false (run m (m.ahead S a) w)

abbrev pub whole : {Sym Set : Type 0} → Machine Sym Set → List Sym → Bool
whole m [] = m.nullable
whole m (a ∷ w) = run m m.begin (a ∷ w)
