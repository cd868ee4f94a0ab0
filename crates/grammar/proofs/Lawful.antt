-- What the definition accepts and refuses meets the law.
use Rattle.std.proofs.Common.{◌≡◌, ℕ, List, Ok, Err, Result, sym, ◌∙◌}
use Rattle.items.specs.declared.Placed.{Placed}
use Rattle.pattern.specs.declared.Code.{Code}
use Rattle.refusal.specs.declared.Cause.{Cause}
use Rattle.refusal.specs.declared.Refusal.{Refusal}
use Rattle.grammar.specs.Law.{Accepted, Refused, Understood}
use Rattle.grammar.specs.Parse.{Outcome, outcome, parse}
use Rattle.grammar.specs.Parse.Outcome.{accepted, refused}
use Rattle.grammar.proofs.Complete.{complete, one_list}
use Rattle.grammar.proofs.First.{clash, first_met}
use Rattle.grammar.proofs.Sole.{met_refused}
use Rattle.grammar.proofs.Sound.{accepted_is}
use Rattle.grammar.proofs.Treed.{tree_of}

pub accepted_so : (xs : List Placed) (len : ℕ) (cs : List Code) → parse xs len ≡ accepted cs → Accepted xs cs
accepted_so xs len cs e =
    let p = accepted_is 32 len xs cs e in
    record { pattern = p; only = λ n ds q. one_list n 32 xs ds cs q p; treed = tree_of 32 xs cs p }

same_refusal : {o : Outcome} {j k : Cause} {q p : ℕ} → o ≡ refused j q → o ≡ refused k p → (j ≡ k) × (q ≡ p)
same_refusal {o} {j} {k} {q} {p} a b = let c : j ≡ k = cc in let d : q ≡ p = cc in (c, d)

pub refused_so : (xs : List Placed) (len : ℕ) (k : Cause) (p : ℕ) → parse xs len ≡ refused k p → Refused xs len k p
refused_so xs len k p e = record { none = λ cs q. clash k p cs (sym e ∙ complete len q); met = first_met xs len k p e; only = λ j q m. same_refusal (met_refused len xs j q m) e }

pub understood : (xs : List Placed) (len : ℕ) (cs : List Code) (r : Result (Unit {0}) Refusal) → parse xs len ≡ outcome r cs → Understood xs len cs r
understood xs len cs (Ok u) e = accepted_so xs len cs e
understood xs len cs (Err k) e = refused_so xs len k.cause k.place e
