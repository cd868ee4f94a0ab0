-- A sealed pattern's subject is proper: what a searcher asks of a pattern, from what an alphabet promises.
use Rattle.std.proofs.Common.{◌≡◌, ℕ, ◌<◌, ◌≤◌, Bool, true, sym, ap, ◌∙◌, arith}
use Rattle.alphabet.specs.declared.Alphabet.{Ghosts as AlphabetMeaning}
use Rattle.sealed.specs.declared.sealing.Sealed.{Sealed}
use Rattle.sealed.specs.Plans.{codes_of, tree_of, positions_of}
use Rattle.sets.specs.BitSets.{set_of_bits}
use Rattle.sets.specs.Positions.{PositionSet}
use Rattle.sets.proofs.Known.{alike_is}
use Rattle.theory.specs.declared.Direction.{Direction}
use Rattle.theory.specs.declared.Direction.TheVariants.{Ahead, Back}
use Rattle.theory.specs.Positions.{Positions, FromOne, atoms}
use Rattle.theory.specs.Machine.{Machine, Lawful, rule}
use Rattle.theory.specs.Masks.{masks}
use Rattle.theory.proofs.Bit.{same_members}
use Rattle.theory.proofs.Masks.{masks_lawful, within}
use Rattle.theory.proofs.Widths.{alike as alike_step}
use Rattle.theory.proofs.Answers.{numbered}
use Rattle.law.specs.Subject.{Proper}
use Rattle.automaton.specs.Subjects.{on_sets, sealed_subject}

pub set_of : (a b : ℕ) → a ≡ b → ◌≡◌ {A = PositionSet} (set_of_bits a) (set_of_bits b)
set_of a b e = ap (λ (x : ℕ). set_of_bits x) e

lifted : {Sym : Type 0} (m : Machine Sym ℕ) (d : Direction) (S : PositionSet) (a b : Sym) → rule m d S.bits a ≡ rule m d S.bits b → rule (on_sets m) d S a ≡ rule (on_sets m) d S b
lifted m Ahead S a b e = set_of _ _ e
lifted m Back S a b e = set_of _ _ e

lift_lawful : {Sym : Type 0} (passes : ℕ → Sym → Bool) (P : Positions) (m : Machine Sym ℕ) → Lawful passes P m → Lawful passes P (on_sets m)
lift_lawful passes P m l =
    record {
      begin_is = l.begin_is;
      ahead_is = λ S a p. l.ahead_is S.bits a p;
      back_is = λ S a p. l.back_is S.bits a p;
      first_is = λ S. l.first_is S.bits;
      last_is = λ S. l.last_is S.bits;
      empty_is = λ S. l.empty_is S.bits;
      nullable_is = l.nullable_is;
    }

-- what an alphabet promises
pub record Kept {A Sym : Type 0} (alphabet : AlphabetMeaning A Sym) (a : A) : Type 0 where
  pub few : alphabet.classes a ≤ 256
  pub below : (t : Sym) → alphabet.fit t ≡ true → alphabet.class_of a t < alphabet.classes a
  pub agree : (k : ℕ) (t : Sym) → alphabet.fit t ≡ true → alphabet.accepts a (alphabet.class_of a t) k ≡ alphabet.passes a k t

pub proper : {A Sym : Type 0} (alphabet : AlphabetMeaning A Sym) (s : Sealed A) → Kept alphabet s.alphabet → Proper (sealed_subject alphabet s)
proper alphabet s kept =
    let passes = alphabet.passes s.alphabet in
    let P = positions_of s.plan in
    let n : FromOne (tree_of s.plan) = numbered (codes_of s.plan) in
    let few : atoms (tree_of s.plan) < 64 = omega (arith, s.plan.few) in
    let l : Lawful passes P (masks 64 passes P) = masks_lawful 64 passes P (within (tree_of s.plan) 64 n few) in
    record {
      numbered = n;
      lawful = lift_lawful passes P (masks 64 passes P) l;
      one = λ S R. alike_is S R;
      small = λ a f. omega (arith, kept.below a f, kept.few);
      alike = λ d S a b fa fb e.
          lifted (masks 64 passes P) d S a b
          (alike_step passes P (masks 64 passes P) l same_members a b (λ p. sym (kept.agree p a fa) ∙ ap (λ c. alphabet.accepts s.alphabet c p) e ∙ kept.agree p b fb) d S.bits);
    }
