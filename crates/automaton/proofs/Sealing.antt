-- The sets of a sealed pattern are those of the step rule.
use Rattle.std.proofs.Common.{◌≡◌, ℕ, ◌^◌, ◌<◌, Bool, true, false, ◌&&◌, ◌||◌, eqb, MatchBool, sym, refl, ap, ◌∙◌, arith, lit<, pow_pos}
use Rattle.std.proofs.lemmas.Bool.{eq-eqb, ne_eqb, both_ways}
use Rattle.sets.specs.BitSets.{members, set_of_bits}
use Rattle.sets.specs.Masks.{mask}
use Rattle.sets.specs.Positions.{width, holds, PositionSet}
use Rattle.sets.specs.Members.{none, plus}
use Rattle.sets.proofs.Sets.{mask_in, one_mask, zero_mask, plus_mask}
use Rattle.theory.specs.Positions.{Positions}
use Rattle.theory.specs.Masks.{masks, those, some, ahead_set, back_set, common}
use Rattle.theory.specs.Masks as numbers
use Rattle.theory.proofs.Masks.{number_those, some_same}
use Rattle.automaton.specs.SubjectLemmas.{set_of}

-- below the width a set's members are its digits
pub digits : (S : PositionSet) (p : ℕ) → p < 64 → holds S p ≡ numbers.holds S.bits p
unfolding members
digits S p l = mask_in 64 S.bits p l

-- the set with these members
pub is_set : (r : PositionSet) (f g : ℕ → Bool) → r.bits < 2 ^ 64 → holds r ≡ f → ((p : ℕ) → p < 64 → f p ≡ g p) → r ≡ set_of_bits (those 64 g)
is_set r f g l e h =
    set_of r.bits (those 64 g) (number_those 64 r.bits g l (λ p q. sym (digits r p q) ∙ ap (λ x. x p) e ∙ h p q))

module _ {Sym : Type 0} (passes : ℕ → Sym → Bool) (P : Positions) (S : PositionSet) (a : Sym) where
  pub ahead_digits : (q : ℕ) → ahead_set width passes P (holds S) a q ≡ ahead_set 64 passes P (numbers.holds S.bits) a q
  ahead_digits q =
      ap (λ x. passes q a && (x && P.first q || some 64 (λ p. holds S p && P.follow p q))) (digits S 0 (omega arith))
      ∙ ap (λ x. passes q a && (numbers.holds S.bits 0 && P.first q || x)) (some_same 64 (λ p. holds S p && P.follow p q) (λ p. numbers.holds S.bits p && P.follow p q) (λ p l. ap (λ x. x && P.follow p q) (digits S p l)))

  pub back_digits : (p : ℕ) → back_set width passes P (holds S) a p ≡ back_set 64 passes P (numbers.holds S.bits) a p
  back_digits p =
      ap (λ x. eqb p 0 || passes p a && (P.last p && x || some 64 (λ q. holds S q && P.follow p q))) (digits S 0 (omega arith))
      ∙ ap (λ x. eqb p 0 || passes p a && (P.last p && numbers.holds S.bits 0 || x)) (some_same 64 (λ q. holds S q && P.follow p q) (λ q. numbers.holds S.bits q && P.follow p q) (λ q l. ap (λ x. x && P.follow p q) (digits S q l)))

pub common_digits : (S : PositionSet) (f : ℕ → Bool) → common width (holds S) f ≡ common 64 (numbers.holds S.bits) f
common_digits S f = some_same 64 (λ p. holds S p && f p) (λ p. numbers.holds S.bits p && f p) (λ p l. ap (λ x. x && f p) (digits S p l))

-- a set without a member is the number 0, and the set of 0 alone is the number 1
pub empty_digits : (S : PositionSet) (r : Bool) → S.bits < 2 ^ 64 → MatchBool r (holds S ≡ none) ((k : ℕ) × (holds S k ≡ true)) → r ≡ eqb S.bits 0
unfolding members
empty_digits S true l h = sym (eq-eqb S.bits 0 (one_mask 64 S.bits 0 l (pow_pos 64) (h ∙ sym (zero_mask 64))))
empty_digits S false l h =
    sym (ne_eqb S.bits 0 (λ e. both_ways (mask 64 S.bits h.0) (ap (λ x. mask 64 x h.0) e ∙ ap (λ f. f h.0) (zero_mask 64)) h.1))

pub begin_digits : (r : PositionSet) → r.bits < 2 ^ 64 → holds r ≡ plus width none 0 → r ≡ set_of_bits 1
unfolding members
begin_digits r l e = set_of r.bits 1 (one_mask 64 r.bits 1 l (lit< tt) (e ∙ sym one_alone))
  where
    one_alone : mask 64 1 ≡ plus 64 none 0
    one_alone = ap (mask 64) refl ∙ plus_mask 64 0 0 (omega arith) ∙ ap (λ f. plus 64 f 0) (zero_mask 64)
