use Rattle.std.proofs.Common.{ℕ, ◌<◌, ◌≤◌, Some, None, Option, arith, rules, MatchOption}
use borrow.Author.Tests.{tests}
use Rattle.std.proofs.lemmas.Iterator.{first_from_Range}
use Rattle.search.specs.Remembered.{SeatedAt}
use Rattle.search.proofs.scanner.Scanner.place_of.Goals as goal

-- a find over the places says which it passes over, and which comes first
within : (o : Option ℕ) (P : ℕ → Type 0) → MatchOption o ((k : ℕ) → 0 ≤ k → k < 64 → P k → ⊥) (λ i. (0 ≤ i) × (i < 64) × P i × ((k : ℕ) → 0 ≤ k → k < i → P k → ⊥)) → MatchOption o ((p : ℕ) → p < 64 → P p → ⊥) (λ p. (p < 64) × P p)
within None P h = λ p l. h p (omega arith) l
within (Some p) P h = (h.1, h.2)

pub returns : goal.returns
returns g c =
    let at : ℕ → Type 0 = λ p. SeatedAt c.args.self.now c.args.set c.args.direction p in
    within c.find.result at (first_from_Range _ _ _ c.find.result at (λ p. at p → ⊥) c.find.ensures.ran (λ x q k. search (rules, tests)) (λ x q k. (search rules, search (rules, tests))))
