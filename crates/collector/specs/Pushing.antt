-- What a collector holds, and what one entry more makes of it.
use Rattle.std.specs.Prelude.{◌≡◌, cond, List, ℕ, ◌+◌, ltb, length, set, take, Result, IfErr}
use Rattle.std.specs.Result.{is_ok}
use Rattle.collector.specs.declared.Collector.{Collector}

-- the entries that it has taken
abbrev pub held : {A : Type 0} → Collector A → List A
held c = take c.used c.entries.now

-- how many entries it was lent
abbrev pub size : {A : Type 0} → Collector A → ℕ
size c = length c.entries.now

-- one entry more: only the entry at `used` is written, and nothing where no entry is free: then it is handed back.
-- `lender` says that it still is the slice that was lent
pub record Pushed {A : Type 0} (before after : Collector A) (x : A) (r : Result (Unit {0}) A) : Type 0 where
  pub free : is_ok r ≡ ltb before.used (size before)
  pub back : IfErr r (λ y. y ≡ x)
  pub count : after.used ≡ before.used + cond (is_ok r) 1 0
  pub written : after.entries.now ≡ cond (is_ok r) (set before.entries.now before.used x) before.entries.now
  pub lender : after.entries.ghost_name ≡ before.entries.ghost_name
