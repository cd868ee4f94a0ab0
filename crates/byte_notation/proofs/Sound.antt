-- What is read stands in the text.
use Rattle.std.proofs.Common.{◌≡◌, ℕ, zero, suc, ◌+◌, ◌-◌, ◌<◌, ◌≤◌, Bool, true, false, cond, eqb, ◌⊎◌, List, [], ◌∷◌, ◌++◌, length, get_or, drop, Some, None, codes, Option, Result, sym, refl, ap, ◌∙◌, subst, inl, inr, ⊎_elim, arith}
use Rattle.std.proofs.lemmas.Bool.Decides.{nat_tests}
use borrow.Author.Tests.{clash}
use Rattle.std.proofs.lemmas.List.{drop_more}
use Rattle.std.proofs.lemmas.Bool.{eqb-true, eqb-false, ne_eqb, cases_eq, cases_lt, cases_Bool}
use Rattle.refusal.specs.declared.Cause.{Cause}
use Rattle.refusal.specs.declared.Refusal.{Refusal}
use Rattle.items.specs.declared.Lexeme.{Lexeme}
use Rattle.items.specs.Lexemes.{sign_byte}
use Rattle.items.specs.declared.Sign.{Sign}
use Rattle.items.specs.declared.Sign.TheVariants.{Open, Close, Bar, Star, Plus, Query}
use Rattle.symbols.specs.declared.ByteTest.{ByteTest}
use Rattle.byte_notation.specs.declared.classes.ByteRange.{ByteRange}
use Rattle.byte_notation.specs.declared.brackets.State.{State}
use Rattle.byte_notation.specs.declared.brackets.State.TheVariants.{NoMember, Members, Closed}
use Rattle.byte_notation.specs.Atoms.{one_of, NoRange, Member, class, range, byte, MayBegin, Run, none, more, Opened, straight, caret, Escape, line_feed, tab, carriage_return, itself, Atom, dot, plain, escaped, bracket, Refused, nothing_begins, escape_last, escape_unknown, unclosed, reversed}
use Rattle.byte_notation.specs.Brackets.{range_end}
use Rattle.byte_notation.specs.Classes.{ranges, span, class_at}
use Rattle.byte_notation.specs.Law.{Lawful, Reads}
use Rattle.byte_notation.specs.Lexing.{lexed}
use Rattle.byte_notation.proofs.Classed.{class_sound, no_class}
use Rattle.byte_notation.proofs.Complete.{found, run_length, entered, signs_read, atoms_read, refusals_read}
use Rattle.byte_notation.proofs.Steps.{width_positive}

-- a member stands at the front of a text, or a range that ends below its start
data Next (text : List ℕ) : Type 0 where
  one : (mid : List ℕ) (rs : List ByteRange) → Member text mid rs → Next text
  wrong : (low high : ℕ) (rest : List ℕ) → text ≡ low ∷ 45 ∷ high ∷ rest → (high ≡ 93 → ⊥) → high < low → Next text

range_found : (rest : List ℕ) (high : ℕ) → range_end rest ≡ Some high → (behind : List ℕ) × (rest ≡ 45 ∷ high ∷ behind) × (high ≡ 93 → ⊥)
range_found [] high e = cc
range_found (m ∷ []) high e = cc
range_found (m ∷ h ∷ rest) high e = at (eqb m 45) (eqb h 93) refl refl e
  where
    at : (x y : Bool) → eqb m 45 ≡ x → eqb h 93 ≡ y → cond x (cond y None (Some h)) None ≡ Some high → (behind : List ℕ) × (m ∷ h ∷ rest ≡ 45 ∷ high ∷ behind) × (high ≡ 93 → ⊥)
    at true true p q e = cc
    at true false p q e =
        let k : h ≡ high = cc in
        (rest, (λ i. eqb-true m 45 p i ∷ k i ∷ rest), λ n. eqb-false h 93 q (k ∙ n))
    at false y p q e = cc

range_missed : (rest : List ℕ) → range_end rest ≡ None → NoRange rest
range_missed rest e high behind s = at (cases_eq high 93)
  where
    at : (high ≡ 93) ⊎ (high ≡ 93 → ⊥) → high ≡ 93
    at (inl k) = k
    at (inr d) =
        let z : ◌≡◌ {A = Option ℕ} (Some high) None = sym (ap (λ c. cond c None (Some high)) (ne_eqb high 93 d)) ∙ ap range_end (sym s) ∙ e in
        cc

next : (c : ℕ) (rest : List ℕ) → Next (c ∷ rest)
next c rest = at (class_at (c ∷ rest)) refl
  where
    ranging : class_at (c ∷ rest) ≡ None → (o : Option ℕ) → range_end rest ≡ o → Next (c ∷ rest)
    ranging n None e = one rest (span c c ∷ []) (byte c (no_class (c ∷ rest) n) (range_missed rest e))
    ranging n (Some high) e =
        let r = range_found rest high e in
        ⊎_elim
        (λ (l : high < c). wrong c high r.0 (ap (λ x. c ∷ x) r.1) r.2 l)
        (λ (l : c ≤ high). one r.0 (span c high ∷ []) (subst (λ x. Member (c ∷ x) r.0 (span c high ∷ [])) (sym r.1) (range c high r.2 l)))
        (cases_lt high c)

    at : (o : Option ℕ) → class_at (c ∷ rest) ≡ o → Next (c ∷ rest)
    at None e = ranging e (range_end rest) refl
    at (Some i) e =
        let r = class_sound (c ∷ rest) i e in
        one r.0 (get_or ranges i []) (subst (λ x. Member x r.0 (get_or ranges i [])) (sym r.2) (class i r.1))

-- how a bracket goes on: it closes, or the text ends, or a range is reversed
data Outcome (s : State) (text : List ℕ) : Type 0 where
  closed : (behind : List ℕ) (rs : List ByteRange) → Run s text Members (93 ∷ behind) rs → Outcome s text
  ended : (t : State) (rs : List ByteRange) → Run s text t [] rs → Outcome s text
  fails : (t : State) (rs : List ByteRange) (low high : ℕ) (rest : List ℕ) → Run s text t (low ∷ 45 ∷ high ∷ rest) rs → MayBegin t (low ∷ 45 ∷ high ∷ rest) → (high ≡ 93 → ⊥) → high < low → Outcome s text

-- with a member in front
ahead : {s : State} {text mid : List ℕ} {these : List ByteRange} → MayBegin s text → Member text mid these → Outcome Members mid → Outcome s text
ahead {these = these} mb m (closed behind rs r) = closed behind (these ++ rs) (more mb m r)
ahead {these = these} mb m (ended t rs r) = ended t (these ++ rs) (more mb m r)
ahead {these = these} mb m (fails t rs low high rest r b d h) = fails t (these ++ rs) low high rest (more mb m r) b d h

go_on : (s : State) (text : List ℕ) → MayBegin s text → Next text → ((mid : List ℕ) → length mid < length text → Outcome Members mid) → Outcome s text
go_on s text mb (one mid rs m) rec =
    let f = found 0 m in
    let w = f.wide in
    let pos = width_positive f.member in
    ahead mb m (rec mid (omega arith))
go_on s text mb (wrong low high rest e d h) rec = fails s [] low high rest (subst (λ x. Run s text s x []) e none) (subst (MayBegin s) e mb) d h

open_yet : Members ≡ Closed → ⊥
open_yet e = cc

unread : NoMember ≡ Closed → ⊥
unread e = cc

-- every bracket has an outcome
total : (n : ℕ) (s : State) (text : List ℕ) → length text ≤ n → (s ≡ Closed → ⊥) → Outcome s text
total n s [] h d = ended s [] none
total zero s (c ∷ rest) h d = absurd (omega arith)
total (suc n) NoMember (c ∷ rest) h d = go_on NoMember (c ∷ rest) tt (next c rest) (λ mid l. total n Members mid (omega arith) open_yet)
total (suc n) Members (c ∷ rest) h d =
    ⊎_elim
    (λ (e : c ≡ 93). closed rest [] (subst (λ x. Run Members (c ∷ rest) Members (x ∷ rest) []) e none))
    (λ (k : c ≡ 93 → ⊥). go_on Members (c ∷ rest) (λ behind e. k (let z : c ≡ 93 = cc in z)) (next c rest) (λ mid l. total n Members mid (omega arith) open_yet))
    (cases_eq c 93)
total (suc n) Closed (c ∷ rest) h d = absurd (d refl)

reads_sign : (place : ℕ) (s : Sign) (behind : List ℕ) → Reads place (sign_byte s ∷ behind) (lexed place (sign_byte s ∷ behind))
reads_sign place s behind = subst (Reads place (sign_byte s ∷ behind)) (sym (signs_read place s behind)) (behind, refl, refl)

reads_atom : (place : ℕ) {text behind : List ℕ} {passes : ℕ → Bool} → Atom text behind passes → Reads place text (lexed place text)
reads_atom place {text} {behind} {passes} a = let r = atoms_read place a in subst (Reads place text) (sym r.2) (behind, passes, a, r.3, r.4)

reads_refused : (place : ℕ) {text : List ℕ} {cause : Cause} {at : ℕ} → Refused place text cause at → Reads place text (lexed place text)
reads_refused place {text} f = subst (Reads place text) (sym (refusals_read place f)) f

opened_sound : (place : ℕ) {inverted : Bool} {text inner : List ℕ} → Opened inverted text inner → Reads place text (lexed place text)
opened_sound place {inverted} {text} {inner} o = at (total (length inner) NoMember inner (omega arith) unread)
  where
    at : Outcome NoMember inner → Reads place text (lexed place text)
    at (closed behind rs r) = reads_atom place (bracket inverted o r)
    at (ended t rs r) = reads_refused place (unclosed o r)
    at (fails t rs low high rest r mb d h) =
        let n = entered place o in
        let past = n.past in
        let ends = n.ends in
        let short = run_length r in
        let q : ℕ = n.start + (length inner - length (low ∷ 45 ∷ high ∷ rest)) in
        reads_refused place (reversed low high q o r mb d h (omega arith))

-- a fact of a byte: of the byte k, and of any other
at_byte : (P : ℕ → Type 0) (b k : ℕ) → P k → ((b ≡ k → ⊥) → P b) → P b
at_byte P b k here elsewhere = ⊎_elim (λ (e : b ≡ k). subst P (sym e) here) elsewhere (cases_eq b k)

bracket_sound : (place : ℕ) (rest : List ℕ) → Reads place (91 ∷ rest) (lexed place (91 ∷ rest))
bracket_sound place [] = opened_sound place {inner = []} (straight {inner = []} no_caret)
  where
    no_caret : (r : List ℕ) → [] ≡ 94 ∷ r → ⊥
    no_caret r e = cc
bracket_sound place (c ∷ rest) =
    at_byte (λ n. Reads place (91 ∷ n ∷ rest) (lexed place (91 ∷ n ∷ rest))) c 94
    (opened_sound place {inner = rest} (caret {inner = rest}))
    (λ d. opened_sound place {inner = c ∷ rest} (straight {inner = c ∷ rest} (λ r e. d (let z : c ≡ 94 = cc in z))))

unknown : (c b : ℕ) → (c ≡ 110 → ⊥) → (c ≡ 116 → ⊥) → (c ≡ 114 → ⊥) → one_of c (codes "()|*+?[]{}.\\^$") ≡ false → Escape c b → ⊥
unknown c b x y z e line_feed = x refl
unknown c b x y z e tab = y refl
unknown c b x y z e carriage_return = z refl
unknown c b x y z e (itself d k) = clash (sym e ∙ k)

escape_sound : (place : ℕ) (rest : List ℕ) → Reads place (92 ∷ rest) (lexed place (92 ∷ rest))
escape_sound place [] = reads_refused place escape_last
escape_sound place (c ∷ rest) =
    let P : ℕ → Type 0 = λ n. Reads place (92 ∷ n ∷ rest) (lexed place (92 ∷ n ∷ rest)) in
    at_byte P c 110 (reads_atom place (escaped 110 10 {behind = rest} line_feed))
    (λ x. at_byte P c 116 (reads_atom place (escaped 116 9 {behind = rest} tab))
    (λ y. at_byte P c 114 (reads_atom place (escaped 114 13 {behind = rest} carriage_return))
    (λ z.
    ⊎_elim
    (λ (e : one_of c (codes "()|*+?[]{}.\\^$") ≡ true). reads_atom place (escaped c c {behind = rest} (itself c e)))
    (λ (e : one_of c (codes "()|*+?[]{}.\\^$") ≡ false). reads_refused place (escape_unknown c {rest = rest} (λ b k. unknown c b x y z e k)))
    (cases_Bool (one_of c (codes "()|*+?[]{}.\\^$"))))))

pub sound : (place b : ℕ) (rest : List ℕ) → Reads place (b ∷ rest) (lexed place (b ∷ rest))
sound place b rest =
    let P : ℕ → Type 0 = λ n. Reads place (n ∷ rest) (lexed place (n ∷ rest)) in
    at_byte P b 40 (reads_sign place Open rest)
    (λ n0. at_byte P b 41 (reads_sign place Close rest)
    (λ n1. at_byte P b 124 (reads_sign place Bar rest)
    (λ n2. at_byte P b 42 (reads_sign place Star rest)
    (λ n3. at_byte P b 43 (reads_sign place Plus rest)
    (λ n4. at_byte P b 63 (reads_sign place Query rest)
    (λ n5. at_byte P b 46 (reads_atom place (dot {behind = rest}))
    (λ n6. at_byte P b 92 (escape_sound place rest)
    (λ n7. at_byte P b 91 (bracket_sound place rest)
    (λ n8.
    ⊎_elim
    (λ (e : one_of b (codes "{^$") ≡ true). reads_refused place (nothing_begins b {rest = rest} e))
    (λ (e : one_of b (codes "{^$") ≡ false).
    reads_atom place {behind = rest}
    (plain b {behind = rest} (grind (arith, nat_tests))))
    (cases_Bool (one_of b (codes "{^$"))))))))))))

-- at a place of a text
pub sound_at : (place : ℕ) (text : List ℕ) (r : Result (Lexeme ByteTest) Refusal) → place < length text → r ≡ lexed place (drop place text) → Reads place (drop place text) r
sound_at place text r h e =
    let P : List ℕ → Type 0 = λ x. Reads place x (lexed place x) in
    subst (Reads place (drop place text)) (sym e) (subst P (sym (drop_more text place 0 h)) (sound place (get_or text place 0) (drop (place + 1) text)))

pub lawful : Lawful
lawful = record { sound = sound; signs = signs_read; atoms = λ place {text} {behind} {passes} a. atoms_read place a; refusals = λ place {text} {cause} {at} f. refusals_read place f }
