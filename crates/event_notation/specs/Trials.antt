-- Trials of the event notation.
use Rattle.std.specs.Prelude.{◌≡◌, ℕ, true, false, Ok, Err, codes as text, Result}
use Rattle.refusal.specs.declared.Cause.{Cause}
use Rattle.refusal.specs.declared.Cause.TheVariants.{NoItem, ReversedRange, BadNumber}
use Rattle.refusal.specs.declared.Refusal.{Refusal}
use Rattle.items.specs.declared.Token.TheVariants.{Atom}
use Rattle.items.specs.declared.Lexeme.{Lexeme}
use Rattle.symbols.specs.declared.EventTest.{EventTest}
use Rattle.event_notation.specs.Reading.{lexed}

abbrev refused : Cause → ℕ → Result (Lexeme EventTest) Refusal
refused c p = Err (record { cause = c; place = p })

-- what stands at the text's front
pub record Trials : Type 0 where
  pub reversed : lexed 0 (text "4:7-6") ≡ refused ReversedRange 2
  pub kind_too_large : lexed 0 (text "256") ≡ refused BadNumber 0
  pub kind_at_most : lexed 0 (text "00255") ≡ Ok (record { token = Atom (record { low = 16711680; high = 16777215; inverted = false }); width = 5 })
  pub six_digits : lexed 0 (text "000001") ≡ refused BadNumber 0
  pub value_too_large : lexed 0 (text "4:9-65536") ≡ refused BadNumber 4
  pub value_at_most : lexed 0 (text "!4:9-65535") ≡ Ok (record { token = Atom (record { low = 262153; high = 327679; inverted = true }); width = 10 })
  pub no_kind : lexed 0 (text "! 4") ≡ refused BadNumber 1
  pub no_second_value : lexed 0 (text "4:7-") ≡ refused BadNumber 4
  pub no_item : lexed 1 (text "-8") ≡ refused NoItem 1
  pub every : lexed 0 (text ".5") ≡ Ok (record { token = Atom (record { low = 0; high = 16777215; inverted = false }); width = 1 })
