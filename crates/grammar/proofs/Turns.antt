-- One turn of the loop over the items, and its end.
use Rattle.std.proofs.Common.{◌≡◌, ℕ, ◌+◌, ◌<◌, ◌≤◌, true, List, Ok, Err, Result, length, get_or, drop, sym, refl, ap, ◌∙◌}
use Rattle.std.specs.Result.{is_ok, MatchResult, IsErrAnd}
use Rattle.std.proofs.lemmas.List.{at_drop_more, at_drop_all}
use Rattle.items.specs.declared.Item.{Item}
use Rattle.items.specs.declared.Placed.{Placed}
use Rattle.refusal.specs.declared.Cause.{Cause}
use Rattle.refusal.specs.declared.Refusal.{Refusal}
use Rattle.grammar.specs.Grammar.{at}
use Rattle.grammar.specs.Memory.{told}
use Rattle.grammar.specs.Parse.{State, Step, step, last, after, run, outcome}
use Rattle.grammar.specs.Parse.Outcome.{accepted, refused}
use Rattle.grammar.specs.Parse.Step.{go}

module _ (xs : List Placed) (len i : ℕ) (s : State) where
  pub turn : (t : Step) → i < length xs → step s (get_or xs i (at Item.Atom 0)).item ≡ t
      → run len s (drop i xs) ≡ after t (get_or xs i (at Item.Atom 0)).place (λ u. run len u (drop (i + 1) xs))
  turn t h e =
      at_drop_more (run len s) xs i (at Item.Atom 0) h
      ∙ ap (λ z. after z (get_or xs i (at Item.Atom 0)).place (λ u. run len u (drop (i + 1) xs))) e

  pub end : (t : Step) → length xs ≤ i → last s ≡ t → run len s (drop i xs) ≡ after t len (λ u. accepted u.codes)
  end t h e = at_drop_all (run len s) xs i h ∙ ap (λ z. after z len (λ u. accepted u.codes)) e

-- a step that is no refusal goes on
pub went : (r : Result (Unit {0}) Cause) (s : State) → true ≡ is_ok r → told r s ≡ go s
went (Ok u) s e = refl
went (Err k) s e = cc

-- what is answered at the end, where each cause is told with the end's place
pub ended : (post : Cause → Refusal → Type 0) (r : Result (Unit {0}) Cause) (q : Result (Unit {0}) Refusal) (len : ℕ) (s : State)
    → ((k : Cause) (y : Refusal) → post k y → y ≡ record { cause = k; place = len }) → MatchResult r (λ u. q ≡ Ok u) (λ k. IsErrAnd q (post k))
    → after (told r s) len (λ t. accepted t.codes) ≡ outcome q s.codes
ended post (Ok u) (Ok v) len s h m = refl
ended post (Ok u) (Err y) len s h m = cc
ended post (Err k) (Ok v) len s h m = absurd m
ended post (Err k) (Err y) len s h m = ap (λ z. refused z.cause z.place) (sym (h k y m))
