-- The tests that each class passes, class by class.
use Rattle.std.proofs.Common.{◌≡◌, ℕ, ◌+◌, ◌-◌, ◌<◌, List, [], ◌∷◌, ◌++◌, length, get_or, sym, refl, ap, ◌∙◌, arith}
use Rattle.std.proofs.lemmas.List.{length_push}
use Rattle.sets.specs.Positions.{holds}
use Rattle.sets.specs.Positions.{PositionSet}
use Rattle.symbols.specs.declared.EventTest.{EventTest}
use Rattle.alphabet.proofs.Filling.{below_pushed}
use Rattle.event_classes.specs.Cuts.{lowest_code}
use Rattle.event_classes.specs.Cutting.{lowest_zero, lowest_cut}
use Rattle.event_classes.specs.Tables.{passed_code}

-- the first class, and those that begin at the first n cuts
pub record Filled (ts : List EventTest) (cs : List ℕ) (n : ℕ) (passing : List PositionSet) : Type 0 where
  pub each : length passing ≡ n + 1
  pub told : (c : ℕ) (d : PositionSet) → c < n + 1 → holds (get_or passing c d) ≡ passed_code ts (lowest_code cs c)

pub filled_first : (ts : List EventTest) (cs : List ℕ) (s : PositionSet) (passing : List PositionSet) → passing ≡ s ∷ [] → holds s ≡ passed_code ts 0 → Filled ts cs 0 passing
filled_first ts cs s passing e g =
    rw e (record {
      each = refl;
      told = λ c d l. below_pushed (λ k x. holds x ≡ passed_code ts (lowest_code cs k)) [] s d (λ k v. absurd (omega arith)) (g ∙ ap (passed_code ts) (sym (lowest_zero cs 0 refl))) c l;
    })

pub filled_more : (ts : List EventTest) (cs : List ℕ) (n : ℕ) (s : PositionSet) (passing new : List PositionSet) → Filled ts cs n passing → new ≡ passing ++ s ∷ [] → holds s ≡ passed_code ts (get_or cs n 0) → Filled ts cs (n + 1) new
filled_more ts cs n s passing new h e g =
    let size = length_push passing s in
    let before : length passing - 1 ≡ n = omega (arith, h.each) in
    let low : lowest_code cs (length passing) ≡ get_or cs n 0 = lowest_cut cs (length passing) (λ z. omega (arith, h.each)) ∙ ap (λ k. get_or cs k 0) before in
    rw e (record {
      each = omega (arith, size, h.each);
      told = λ c d l. below_pushed (λ k x. holds x ≡ passed_code ts (lowest_code cs k)) passing s d (λ k v. h.told k d (omega (arith, h.each))) (g ∙ ap (passed_code ts) (sym low)) c (omega (arith, h.each));
    })
