-- A table of sets read at a place that it may not have.
use Rattle.std.proofs.Common.{◌≡◌, ℕ, zero, suc, ◌<◌, ◌≤◌, ◌&&◌, ltb, List, [], ◌∷◌, length, get_or, sym, refl, ap, ◌∙◌, ⊎_elim, arith}
use mathlib.Core.Path.{fun_ext}
use Rattle.std.proofs.lemmas.Bool.{cases_lt, lt-ltb, le-ltb, and_right}
use Rattle.std.proofs.lemmas.List.{get_or_past}
use Rattle.sets.specs.BitSets.{members}
use Rattle.sets.specs.Members.{Members, none, shared, below}
use Rattle.sets.specs.Positions.{holds, width, PositionSet}
use Rattle.sets.proofs.Sets.{zero_mask}
use Rattle.alphabet.specs.Sets.{blank}

blank_none : holds blank ≡ none
unfolding members
blank_none = zero_mask 64

pub at_blank : (sets : List PositionSet) (i : ℕ) (s : PositionSet) → holds s ≡ none → holds (get_or sets i s) ≡ holds (get_or sets i blank)
at_blank [] i s e = e ∙ sym blank_none
at_blank (x ∷ sets) zero s e = refl
at_blank (x ∷ sets) (suc i) s e = at_blank sets i s e

-- what is read at a place is what stands at the place that it is
pub at_place : (sets : List PositionSet) (i c : ℕ) (s : Members) → s ≡ holds (get_or sets i blank) → i ≡ c → s ≡ holds (get_or sets c blank)
at_place sets i c s h e = h ∙ ap (λ k. holds (get_or sets k blank)) e

-- the sets that classes pass, where the classes are those of the table
pub at_class : (sets : List PositionSet) (n c : ℕ) (f : Members) → length sets ≡ n → (c < n → (k : ℕ) → holds (get_or sets c blank) k ≡ shared (below width) f k) → holds (get_or sets c blank) ≡ shared (below width) (λ k. ltb c n && f k)
at_class sets n c f e h = fun_ext (λ k.
    ⊎_elim (λ (l : c < n). h l k ∙ sym (ap (λ x. ltb k width && (x && f k)) (lt-ltb c n l)))
    (λ (l : n ≤ c).
    ap (λ s. holds s k) (get_or_past sets c blank (omega (arith, e))) ∙ ap (λ g. g k) blank_none
    ∙ sym (and_right (ltb k width) (ltb c n && f k) (ap (λ x. x && f k) (le-ltb c n l))))
    (cases_lt c n))
