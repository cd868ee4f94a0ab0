use Rattle.std.proofs.Common.{◌≡◌, ℕ, suc, ◌+◌, ◌-◌, ◌<◌, ◌≤◌, true, false, not, eqb, Some, None, Option, sym, refl, ap, ◌∙◌, arith}
use Rattle.std.proofs.lemmas.Bool.{eq-eqb, ne_eqb, both_ways, and_parts, and_from, not-true, not_from_false}
use Rattle.std.proofs.lemmas.Bool.Decides.{nat_tests}
use Rattle.std.proofs.lemmas.Option.{none-some}
use Rattle.sets.specs.Members.{Members, except}
use Rattle.memory.specs.Live.{May}
use Rattle.policies.specs.Round.{next, others, way, going, only}

pub past : (may : Members) (n : ℕ) (marks : Members) (at : ℕ) → may at ≡ false → going may (suc n) marks at ≡ going may n marks (next at)
unfolding going
past may n marks at e = rw e

pub cleared : (may : Members) (n : ℕ) (marks : Members) (at : ℕ) → may at ≡ true → marks at ≡ true → going may (suc n) marks at ≡ going may n (except marks at) (next at)
unfolding going
cleared may n marks at e m = rw (e, m)

pub stopped : (may : Members) (n : ℕ) (marks : Members) (at : ℕ) → may at ≡ true → marks at ≡ false → going may (suc n) marks at ≡ way (Some at) marks
unfolding going
stopped may n marks at e m = rw (e, m)

pub ended : (may marks : Members) (at : ℕ) → going may 0 marks at ≡ way None marks
unfolding going
ended may marks at = refl

-- the same, as the loop counts
left_more : (n : ℕ) → n < 128 → 128 - n ≡ suc (128 - (n + 1))
left_more n h = omega arith

pub past_more : (may : Members) (n : ℕ) (marks : Members) (at : ℕ) → n < 128 → may at ≡ false → going may (128 - n) marks at ≡ going may (128 - (n + 1)) marks (next at)
past_more may n marks at h e = ap (λ k. going may k marks at) (left_more n h) ∙ past may (128 - (n + 1)) marks at e

pub cleared_more : (may : Members) (n : ℕ) (marks : Members) (at : ℕ) → n < 128 → may at ≡ true → marks at ≡ true → going may (128 - n) marks at ≡ going may (128 - (n + 1)) (except marks at) (next at)
cleared_more may n marks at h e m = ap (λ k. going may k marks at) (left_more n h) ∙ cleared may (128 - (n + 1)) marks at e m

pub stopped_more : (may : Members) (n : ℕ) (marks : Members) (at : ℕ) → n < 128 → may at ≡ true → marks at ≡ false → going may (128 - n) marks at ≡ way (Some at) marks
stopped_more may n marks at h e m = ap (λ k. going may k marks at) (left_more n h) ∙ stopped may (128 - (n + 1)) marks at e m

pub ended_more : (may : Members) (n : ℕ) (marks : Members) (at : ℕ) → 128 ≤ n → going may (128 - n) marks at ≡ way None marks
ended_more may n marks at h = (let e : 128 - n ≡ 0 = omega arith in ap (λ k. going may k marks at) e) ∙ ended may marks at

not_in : (f : Members) (p k : ℕ) → except f p k ≡ true → (f k ≡ true) × (p ≡ k → ⊥)
not_in f p k h =
    let a = and_parts (f k) (not (eqb k p)) h in
    (a.0, λ (e : p ≡ k). both_ways (eqb k p) (not-true (eqb k p) a.1) (eq-eqb k p (sym e)))

pub others_may : (f : Members) (held : Option ℕ) (k : ℕ) → others f held k ≡ true → May f held k
others_may f None k h = (h, λ (e : None ≡ Some k). none-some k e)
others_may f (Some p) k h = let a = not_in f p k h in (a.0, λ (e : Some p ≡ Some k). a.1 (cc))

pub may_others : (f : Members) (held : Option ℕ) (k : ℕ) → May f held k → others f held k ≡ true
may_others f None k h = h.0
may_others f (Some p) k h = and_from (f k) (not (eqb k p)) h.0 (not_from_false (eqb k p) (ne_eqb k p (λ (e : k ≡ p). h.1 (ap Some (sym e)))))

pub only_is : (p k : ℕ) → only (Some p) k ≡ true → k ≡ p
only_is p k h = grind (arith, nat_tests)

pub only_has : (p : ℕ) → p < 64 → only (Some p) p ≡ true
only_has p h = grind (arith, nat_tests)
