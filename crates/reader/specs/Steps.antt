-- What the parts of the reader leave behind: one token, and a whole text.
use Rattle.std.specs.Prelude.{◌≡◌, ℕ, ◌<◌, ◌≤◌, List, [], ◌∷◌, ◌++◌, length, take, Some, None, Ok, Err, Option, Result}
use Rattle.collector.specs.declared.Collector.{Collector}
use Rattle.refusal.specs.declared.Cause.TheVariants.{TooManyAtoms}
use Rattle.refusal.specs.declared.Refusal.{Refusal}
use Rattle.pattern.specs.declared.Code.{Code}
use Rattle.items.specs.declared.Placed.{Placed}
use Rattle.items.specs.declared.Token.{Token}
use Rattle.items.specs.declared.Token.TheVariants.{Space, Sign, Atom}
use Rattle.grammar.specs.Law.{Understood}
use Rattle.grammar.specs.Memory.{Wrote}
use Rattle.grammar.specs.Parse.{parse}
use Rattle.grammar.specs.Parse as Parse
use Rattle.reader.specs.Law.{Lawful}
use Rattle.reader.specs.Reading.{refusal, reading, outcome}
use Rattle.reader.specs.Rows.{Lexer, Found, Row, with_item, items, tests, surplus}

-- the tests, of which only 63 are kept
abbrev pub kept : {T : Type 0} → Token T → List T → List T
kept Space ts = ts
kept (Sign s) ts = ts
kept (Atom t) ts = take 63 (ts ++ t ∷ [])

-- one token: its item is written behind the others
pub record Took {T : Type 0} (token : Token T) (place : ℕ) (ts us : List T) (before after : Collector Placed) : Type 0 where
  pub tests : us ≡ kept token ts
  pub wrote : Wrote before after (with_item token place [])

-- the whole text is a row of lexemes
pub record Whole {T : Type 0} (lexed : Lexer T) (text : List ℕ) (ts : List T) (xs : List Placed) : Type 0 where
  pub found : List (Found T)
  pub row : Row lexed 0 text found (length text) []
  pub tested : ts ≡ take 63 (tests found)
  pub placed : xs ≡ items found

-- behind some lexemes none can be read
pub record Stopped {T : Type 0} (lexed : Lexer T) (text : List ℕ) (e : Refusal) : Type 0 where
  pub found : List (Found T)
  pub place : ℕ
  pub rest : List ℕ
  pub row : Row lexed 0 text found place rest
  pub some : 0 < length rest
  pub is : lexed place rest ≡ Err e

-- the first n entries of the space are the items, or a lexeme cannot be read
abbrev pub Lexed : {T : Type 0} → Lexer T → List ℕ → List T → List Placed → Result ℕ Refusal → Type 0
Lexed lexed text ts space (Ok n) = (n ≤ length text) × Whole lexed text ts (take n space)
Lexed lexed text ts space (Err e) = Stopped lexed text e

-- the items' count and then their structure, by the first atom past 63
abbrev pub ByCount : Option ℕ → List Placed → ℕ → List Code → Result (Unit {0}) Refusal → Type 0
ByCount (Some p) xs len cs r = r ≡ Err (refusal TooManyAtoms p)
ByCount None xs len cs r = (parse xs len ≡ Parse.outcome r cs) × Understood xs len cs r

abbrev pub Checked : List Placed → ℕ → List Code → Result (Unit {0}) Refusal → Type 0
Checked xs len cs r = ByCount (surplus 63 xs) xs len cs r

-- a text of at most 512 bytes is read
pub record Filled {T : Type 0} (lexed : Lexer T) (text : List ℕ) (ts : List T) (cs : List Code) (r : Result (Unit {0}) Refusal) : Type 0 where
  pub meaning : reading lexed text ≡ outcome r ts cs
  pub law : Lawful lexed text ts cs r
