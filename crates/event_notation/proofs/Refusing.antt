-- Each refusal that stands in a text is the answer.
use Rattle.std.proofs.Common.{arith, ◌≡◌, ℕ, ◌+◌, true, false, List, ◌∷◌, drop, Ok, Err, sym, ap, ◌∙◌}
use Rattle.std.proofs.lemmas.Bool.Decides.{nat_tests}
use Rattle.refusal.specs.declared.Cause.{Cause}
use Rattle.refusal.specs.declared.Cause.TheVariants.{BadNumber}
use Rattle.refusal.specs.declared.Refusal.{Refusal}
use Rattle.items.specs.declared.Sign.TheVariants.{Open, Close, Bar, Star, Plus, Query}
use Rattle.event_notation.specs.declared.Start.TheVariants.{Nothing}
use Rattle.event_notation.specs.Numbers.{number_at}
use Rattle.event_notation.specs.Spans.{after, range_from, range, values, coded, codes}
use Rattle.event_notation.specs.Reading.{start_of, named, begun, lexed}
use Rattle.event_notation.specs.Refusals.{BeginsNothing, Part, the_kind, first_value, second_value, most, Due, in_front, behind_bang, behind_colon, behind_dash, Refused, nothing_begins, no_number, reversed}
use Rattle.event_notation.proofs.Numerals.{number_none}
use Rattle.event_notation.proofs.Valuing.{second_none, two_reversed}
use Rattle.event_notation.proofs.Coding.{values_none}
use Rattle.event_notation.proofs.Lexing.{digit_start}

nothing_start : (b : ℕ) → BeginsNothing b → start_of b ≡ Nothing
nothing_start b n = grind (arith, nat_tests, n.no_sign Open, n.no_sign Close, n.no_sign Bar, n.no_sign Star, n.no_sign Plus, n.no_sign Query)

-- what is read from a number on is refused
abbrev Fails : Part → ℕ → List ℕ → Refusal → Type 0
Fails the_kind at bs e = codes at bs ≡ Err e
Fails first_value at bs e = range at bs ≡ Err e
Fails second_value at bs e = number_at 65535 at bs ≡ Err e

-- where a number is due, such a refusal is the answer
due_fails : {place : ℕ} {text : List ℕ} {part : Part} {at : ℕ} {bs : List ℕ} → Due place text part at bs → (e : Refusal) → Fails part at bs e → lexed place text ≡ Err e
due_fails {place} {text} (in_front b rest whole is) e fails =
    ap (lexed place) whole ∙ ap (begun place (b ∷ rest)) (digit_start b is)
    ∙ ap (λ r. after r (λ s. Ok (named false s))) (ap (codes place) (sym whole) ∙ fails)
due_fails {place} {text} (behind_bang rest whole) e fails = ap (lexed place) whole ∙ ap (λ r. after r (λ s. Ok (named true s))) fails
due_fails (behind_colon at ds rest n due num) e fails = due_fails due e (values_none at ds rest n num e fails)
due_fails (behind_dash at ds rest n due num) e fails = due_fails due e (second_none at ds n num rest e fails)

number_fails : (part : Part) (at : ℕ) (bs : List ℕ) (e : Refusal) → number_at (most part) at bs ≡ Err e → Fails part at bs e
number_fails the_kind at bs e none = ap (λ r. after r (λ k. after (values (at + k.width) (drop k.width bs)) (coded k))) none
number_fails first_value at bs e none = ap (λ r. after r (λ n. range_from at (drop n.width bs) n)) none
number_fails second_value at bs e none = none

pub refusals_read : {place : ℕ} {text : List ℕ} {cause : Cause} {at : ℕ} → Refused place text cause at → lexed place text ≡ Err (record { cause = cause; place = at })
refusals_read {place} (nothing_begins b rest whole n) = ap (lexed place) whole ∙ ap (begun place (b ∷ rest)) (nothing_start b n)
refusals_read (no_number part at bs due none) =
    due_fails due (record { cause = BadNumber; place = at }) (number_fails part at bs (record { cause = BadNumber; place = at }) (number_none (most part) at bs none))
refusals_read (reversed at ds es behind low high due first second ends h) = due_fails due _ (two_reversed at ds low first es high second h behind ends)
