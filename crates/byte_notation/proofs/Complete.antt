-- What stands in a text is read.
use Rattle.std.proofs.Common.{◌≡◌, ℕ, suc, ◌+◌, ◌-◌, ◌<◌, ◌≤◌, Bool, true, false, cond, eqb, List, [], ◌∷◌, ◌++◌, length, get_or, drop, Some, None, Ok, Err, codes, Result, sym, refl, ap, ◌∙◌, subst, ⊎_elim, arith, length-append}
use Rattle.std.proofs.lemmas.List.{drop_at}
use Rattle.std.proofs.lemmas.Bool.{eq-eqb, ne_eqb, le-ltb, lt-ltb, eqb-true, or_cases, cond-false, false_from_ne_true}
use Rattle.std.proofs.lemmas.Bool.Decides.{nat_tests}
use borrow.Author.Tests.{clash}
use Rattle.items.specs.Lexemes.{sign_byte, signed, atom}
use Rattle.items.specs.declared.Sign.{Sign}
use Rattle.items.specs.declared.Sign.TheVariants.{Open, Close, Bar, Star, Plus, Query}
use Rattle.refusal.specs.declared.Cause.{Cause}
use Rattle.refusal.specs.declared.Cause.TheVariants.{NoItem, ReversedRange}
use Rattle.refusal.specs.declared.Refusal.{Refusal}
use Rattle.symbols.specs.declared.ByteTest.{ByteTest}
use Rattle.symbols.specs.ByteSets.{no_byte}
use Rattle.byte_notation.specs.declared.classes.ByteRange.{ByteRange}
use Rattle.byte_notation.specs.declared.brackets.State.{State}
use Rattle.byte_notation.specs.declared.brackets.State.TheVariants.{NoMember, Members, Closed}
use Rattle.byte_notation.specs.declared.brackets.Bracket.{Bracket}
use Rattle.byte_notation.specs.Atoms.{one_of, NoRange, Member, class, range, byte, MayBegin, Run, none, more, Opened, straight, caret, Escape, line_feed, tab, carriage_return, itself, Atom, dot, plain, escaped, bracket, Refused, nothing_begins, escape_last, escape_unknown, unclosed, reversed}
use Rattle.byte_notation.specs.Brackets as read
use Rattle.byte_notation.specs.Brackets.{after, range_end, ranged, class_else, member_at, width, with_ranges, with_member, proceed, members, bracketed, tested}
use Rattle.byte_notation.specs.Lexing.{lexed, item, refused, only_byte, any_byte, escape_of, escaped as escaped_as}
use Rattle.byte_notation.specs.Law.{Passes}
use Rattle.byte_notation.specs.Classes.{names, span, starts, class_width}
use Rattle.byte_notation.proofs.Classed.{class_complete, class_none}
use Rattle.byte_notation.proofs.Fronts.{class_unopened}
use Rattle.byte_notation.proofs.Passing.{ranges_append, byte_range, only_passes, any_passes, bracket_passes}
use Rattle.byte_notation.proofs.Steps.{skip, width_positive}

-- what the reader makes of a member at the front of a text
pub record Found (p : ℕ) (text behind : List ℕ) (rs : List ByteRange) : Type 0 where
  pub first : ℕ
  pub rest : List ℕ
  pub split : text ≡ first ∷ rest
  pub member : read.Member
  pub is : member_at p first rest ≡ Ok member
  pub left : drop (width member - 1) rest ≡ behind
  pub wide : width member + length behind ≡ length text
  pub adds : (t : ByteTest) → with_member t member ≡ with_ranges t rs

-- a - behind the first byte opens no class
dash_unopened : (low : ℕ) (rest : List ℕ) → starts (codes "[:") (low ∷ 45 ∷ rest) ≡ false
dash_unopened low rest = at (eqb low 91)
  where
    at : (b : Bool) → cond b (cond (eqb 45 58) true false) false ≡ false
    at true = refl
    at false = refl

range_none : (rest : List ℕ) → NoRange rest → range_end rest ≡ None
range_none [] d = refl
range_none (m ∷ []) d = refl
range_none (m ∷ h ∷ rest) d = at (eqb m 45) refl
  where
    at : (b : Bool) → eqb m 45 ≡ b → cond b (cond (eqb h 93) None (Some h)) None ≡ None
    at true e = ap (λ c. cond c None (Some h)) (eq-eqb h 93 (d h rest (λ i. eqb-true m 45 e i ∷ h ∷ rest)))
    at false e = refl

range_some : (high : ℕ) (rest : List ℕ) → (high ≡ 93 → ⊥) → range_end (45 ∷ high ∷ rest) ≡ Some high
range_some high rest d = ap (λ c. cond c None (Some high)) (ne_eqb high 93 d)

pub found : (p : ℕ) {text behind : List ℕ} {rs : List ByteRange} → Member text behind rs → Found p text behind rs
found p (class i {behind} h) =
    record {
      first = 91;
      rest = 58 ∷ (get_or names i [] ++ codes ":]") ++ behind;
      split = refl;
      member = read.Class i;
      is = ap (λ o. class_else o (ranged p 91 (range_end (58 ∷ (get_or names i [] ++ codes ":]") ++ behind)))) (class_complete i behind h);
      left = drop_at (58 ∷ (get_or names i [] ++ codes ":]")) behind (class_width i - 1) (let e = length-append (get_or names i []) (codes ":]") in omega arith);
      wide =
          (let e = length-append (get_or names i []) (codes ":]") in
          let f = length-append (get_or names i [] ++ codes ":]") behind in
          omega arith);
      adds = λ t. refl;
    }
found p (range low high {behind} d h) =
    record {
      first = low;
      rest = 45 ∷ high ∷ behind;
      split = refl;
      member = read.Range (span low high);
      is =
          (λ i. class_else (class_unopened 0 names (low ∷ 45 ∷ high ∷ behind) (dash_unopened low (high ∷ behind)) i) (ranged p low (range_some high behind d i)))
          ∙ ap (λ c. cond c (Err (record { cause = ReversedRange; place = p })) (Ok (read.Range (span low high)))) (le-ltb high low h);
      left = refl;
      wide = omega arith;
      adds = λ t. refl;
    }
found p (byte b {behind} c r) =
    record {
      first = b;
      rest = behind;
      split = refl;
      member = read.Byte b;
      is = λ i. class_else (class_none (b ∷ behind) c i) (ranged p b (range_none behind r i));
      left = refl;
      wide = omega arith;
      adds = λ t. byte_range t b;
    }

begun : (s : State) (b : ℕ) (rest text : List ℕ) → text ≡ b ∷ rest → MayBegin s text → after s b ≡ Members
begun NoMember b rest text e m = refl
begun Members b rest text e m = ap (λ c. cond c Closed Members) (ne_eqb b 93 (λ k. m rest (e ∙ ap (λ n. n ∷ rest) k)))
begun Closed b rest text e m = absurd m

-- one member is read
step : (o : ℕ) (s : State) (k : ByteTest) (p : ℕ) (text mid : List ℕ) (rs : List ByteRange) → MayBegin s text → (f : Found p text mid rs)
    → members o s k p 0 text ≡ members o Members (with_ranges k rs) (p + width f.member) 0 mid
step o s k p text mid rs mb f =
    let m = f.member in
    let cont : read.Member → Result Bracket Refusal = λ x. members o Members (with_member k x) (p + 1) (width x - 1) f.rest in
    let w : 0 < width f.member = width_positive f.member in
    let e : p + 1 + (width f.member - 1) ≡ p + width f.member = omega arith in
    ap (members o s k p 0) f.split
    ∙ (λ i. proceed (begun s f.first f.rest text f.split mb i) (record { test = k; width = p + 1 - o }) (f.is i) cont)
    ∙ skip o Members (with_member k m) (p + 1) (width m - 1) f.rest
    ∙ (λ i. members o Members (f.adds k i) (e i) 0 (f.left i))

-- a run of members is read
pub run_length : {s t : State} {text behind : List ℕ} {rs : List ByteRange} → Run s text t behind rs → length behind ≤ length text
run_length none = omega arith
run_length (more mb m r) = let f = found 0 m in let w = f.wide in let n = run_length r in omega arith

pub run_read : {s t : State} {text behind : List ℕ} {rs : List ByteRange} → Run s text t behind rs → (o : ℕ) (k : ByteTest) (p q : ℕ) → q + length behind ≡ p + length text
    → members o s k p 0 text ≡ members o t (with_ranges k rs) q 0 behind
run_read (none {s} {text}) o k p q e = let z : p ≡ q = omega arith in ap (λ n. members o s k n 0 text) z
run_read (more {s} {t} {text} {mid} {behind} {these} {those} mb m r) o k p q e =
    let f = found p m in
    let w = f.wide in
    step o s k p text mid these mb f
    ∙ run_read r o (with_ranges k these) (p + width f.member) q (omega arith)
    ∙ ap (λ x. members o t x q 0 behind) (sym (ranges_append k these those))

reversed_member : (p low high : ℕ) (rest : List ℕ) → (high ≡ 93 → ⊥) → high < low → member_at p low (45 ∷ high ∷ rest) ≡ Err (record { cause = ReversedRange; place = p })
reversed_member p low high rest d h =
    (λ i. class_else (class_unopened 0 names (low ∷ 45 ∷ high ∷ rest) (dash_unopened low (high ∷ rest)) i) (ranged p low (range_some high rest d i)))
    ∙ ap (λ c. cond c (Err (record { cause = ReversedRange; place = p })) (Ok (read.Range (span low high)))) (lt-ltb high low h)

reversed_read : (o : ℕ) (s : State) (k : ByteTest) (p low high : ℕ) (rest : List ℕ) → MayBegin s (low ∷ 45 ∷ high ∷ rest) → (high ≡ 93 → ⊥) → high < low
    → members o s k p 0 (low ∷ 45 ∷ high ∷ rest) ≡ Err (record { cause = ReversedRange; place = p })
reversed_read o s k p low high rest mb d h =
    let cont : read.Member → Result Bracket Refusal = λ x. members o Members (with_member k x) (p + 1) (width x - 1) (45 ∷ high ∷ rest) in
    (λ i. proceed (begun s low (45 ∷ high ∷ rest) (low ∷ 45 ∷ high ∷ rest) refl mb i) (record { test = k; width = p + 1 - o }) (reversed_member p low high rest d h i) cont)

-- where the members of a bracket begin, and what it reads as
pub record Entered (place : ℕ) (inverted : Bool) (text inner : List ℕ) : Type 0 where
  pub start : ℕ
  pub past : place < start
  pub ends : start + length inner ≡ place + length text
  pub is : lexed place text ≡ bracketed inverted (members place NoMember no_byte start 0 inner)

no_caret : (inner : List ℕ) → ((rest : List ℕ) → inner ≡ 94 ∷ rest → ⊥) → read.caret inner ≡ false
no_caret [] d = refl
no_caret (c ∷ inner) d = ne_eqb c 94 (λ e. d inner (ap (λ n. n ∷ inner) e))

pub entered : (place : ℕ) {inverted : Bool} {text inner : List ℕ} → Opened inverted text inner → Entered place inverted text inner
entered place (straight {inner} d) =
    record {
      start = place + 1;
      past = omega arith;
      ends = omega arith;
      is = ap (λ c. bracketed c (members place NoMember no_byte (place + 1) (cond c 1 0) inner)) (no_caret inner d);
    }
entered place (caret {inner}) = record { start = place + 1 + 1; past = omega arith; ends = omega arith; is = refl }

-- what holds of each byte of a list holds of one of them
abbrev Each : (ℕ → Type 0) → List ℕ → Type 0
Each P [] = Unit {0}
Each P (c ∷ cs) = P c × Each P cs

one_of_lem : (P : ℕ → Type 0) (b : ℕ) (cs : List ℕ) → Each P cs → one_of b cs ≡ true → P b
one_of_lem P b [] all e = absurd (clash e)
one_of_lem P b (c ∷ cs) all e =
    ⊎_elim
    (λ (k : eqb b c ≡ true). subst P (sym (eqb-true b c k)) all.0)
    (λ (k : one_of b cs ≡ true). one_of_lem P b cs all.1 k)
    (or_cases (eqb b c) (one_of b cs) e)

-- a byte that is none of the special ones stands for itself
plain_read : (place b : ℕ) (behind : List ℕ) → one_of b (codes "()|*+?.\\[{^$") ≡ false → item place b behind ≡ Ok (atom (only_byte b) 1)
plain_read place b behind e = grind (arith, nat_tests)

escape_read : (place c b : ℕ) (behind : List ℕ) → Escape c b → lexed place (92 ∷ c ∷ behind) ≡ Ok (atom (only_byte b) 2)
escape_read place c b behind line_feed = refl
escape_read place c b behind tab = refl
escape_read place c b behind carriage_return = refl
escape_read place c b behind (itself b' e) =
    one_of_lem (λ n. lexed place (92 ∷ n ∷ behind) ≡ Ok (atom (only_byte n) 2)) b' (codes "()|*+?[]{}.\\^$")
    (refl, (refl, (refl, (refl, (refl, (refl, (refl, (refl, (refl, (refl, (refl, (refl, (refl, (refl, tt)))))))))))))) e

unknown_escape : (c : ℕ) → ((b : ℕ) → Escape c b → ⊥) → escape_of c ≡ None
unknown_escape c d =
    cond-false (eqb c 110) _ _ (false_from_ne_true (eqb c 110) (λ e. d 10 (subst (λ n. Escape n 10) (sym (eqb-true c 110 e)) line_feed)))
    ∙ cond-false (eqb c 116) _ _ (false_from_ne_true (eqb c 116) (λ e. d 9 (subst (λ n. Escape n 9) (sym (eqb-true c 116 e)) tab)))
    ∙ cond-false (eqb c 114) _ _ (false_from_ne_true (eqb c 114) (λ e. d 13 (subst (λ n. Escape n 13) (sym (eqb-true c 114 e)) carriage_return)))
    ∙ cond-false (one_of c (codes "()|*+?[]{}.\\^$")) _ _ (false_from_ne_true (one_of c (codes "()|*+?[]{}.\\^$")) (λ e. d c (itself c e)))

pub signs_read : (place : ℕ) (s : Sign) (behind : List ℕ) → lexed place (sign_byte s ∷ behind) ≡ Ok (signed s)
signs_read place Open behind = refl
signs_read place Close behind = refl
signs_read place Bar behind = refl
signs_read place Star behind = refl
signs_read place Plus behind = refl
signs_read place Query behind = refl

pub atoms_read : (place : ℕ) {text behind : List ℕ} {passes : ℕ → Bool} → Atom text behind passes
    → (t : ByteTest) × (width : ℕ) × (lexed place text ≡ Ok (atom t width)) × (width + length behind ≡ length text) × Passes t passes
atoms_read place (dot {behind}) = (any_byte, 1, refl, omega arith, any_passes)
atoms_read place (plain b {behind} e) = (only_byte b, 1, plain_read place b behind e, omega arith, only_passes b)
atoms_read place (escaped c b {behind} e) = (only_byte b, 2, escape_read place c b behind e, omega arith, only_passes b)
atoms_read place (bracket inverted {text} {inner} {behind} {rs} o r) =
    let n = entered place o in
    let past = n.past in
    let ends = n.ends in
    let short = run_length r in
    let q : ℕ = n.start + (length inner - suc (length behind)) in
    let e : q + suc (length behind) ≡ n.start + length inner = omega arith in (
      tested inverted (with_ranges no_byte rs),
      q + 1 - place,
      n.is ∙ ap (bracketed inverted) (run_read r place no_byte n.start q e),
      omega arith,
      bracket_passes inverted rs,
    )

pub refusals_read : (place : ℕ) {text : List ℕ} {cause : Cause} {at : ℕ} → Refused place text cause at → lexed place text ≡ refused cause at
refusals_read place (nothing_begins b {rest} e) = one_of_lem (λ n. lexed place (n ∷ rest) ≡ refused NoItem place) b (codes "{^$") (refl, (refl, (refl, tt))) e
refusals_read place escape_last = refl
refusals_read place (escape_unknown c {rest} d) = ap (escaped_as place) (unknown_escape c d)
refusals_read place (unclosed {inverted} {text} {inner} {s} {rs} o r) =
    let n = entered place o in
    n.is ∙ ap (bracketed inverted) (run_read r place no_byte n.start (n.start + length inner) (omega arith))
refusals_read place (reversed {inverted} {text} {inner} {s} {rs} low high {rest} at o r mb d h e) =
    let n = entered place o in
    let ends = n.ends in
    n.is ∙ ap (bracketed inverted) (run_read r place no_byte n.start at (omega arith) ∙ reversed_read place s (with_ranges no_byte rs) at low high rest mb d h)
