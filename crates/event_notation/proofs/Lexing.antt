-- Each atom is read, and its test passes the events that it means.
use Rattle.std.proofs.Common.{◌≡◌, ℕ, ◌+◌, ◌≤◌, true, false, List, [], ◌∷◌, ◌++◌, length, Ok, Result, sym, ap, ◌∙◌, subst, append_assoc, arith}
use Rattle.std.proofs.lemmas.Bool.Decides.{nat_tests}
use Rattle.refusal.specs.declared.Refusal.{Refusal}
use Rattle.items.specs.declared.Token.TheVariants.{Atom}
use Rattle.items.specs.declared.Lexeme.{Lexeme}
use Rattle.symbols.specs.declared.EventTest.{EventTest}
use Rattle.event_notation.specs.declared.Start.TheVariants.{Digit}
use Rattle.event_notation.specs.Numbers.{digit}
use Rattle.event_notation.specs.Spans.{after}
use Rattle.event_notation.specs.Reading.{start_of, named, begun, lexed}
use Rattle.event_notation.specs.Atoms.{Meaning, any, some, others, test_of, Form, dot, Selected, is_dot, is_plain, is_inverted, goes_on, Ends, AtomAt, Digits, Values, kind_alone, one_value, two_values, Atom as AtomText}
use Rattle.event_notation.specs.Law.{Passes}
use Rattle.event_notation.proofs.Passing.{Small, passing}
use Rattle.event_notation.proofs.Coding.{codes_each}

pub digit_start : (b : ℕ) → digit b ≡ true → start_of b ≡ Digit
digit_start b e = grind (arith, nat_tests)

abbrev pub atom : Meaning → ℕ → Lexeme EventTest
atom m w = record { token = Atom (test_of m); width = w }

same_width : (m : Meaning) (v w : ℕ) → v ≡ w → ◌≡◌ {A = Result (Lexeme EventTest) Refusal} (Ok (atom m v)) (Ok (atom m w))
same_width m v w e = λ i. Ok (atom m (e i))

digits_start : (p : ℕ) (k rest : List ℕ) → Digits k → 1 ≤ length k → lexed p (k ++ rest) ≡ begun p (k ++ rest) Digit
digits_start p [] rest all one = absurd (omega arith)
digits_start p (d ∷ ds) rest all one = ap (begun p (d ∷ (ds ++ rest))) (digit_start d all.0)

-- a kind begins with a digit
plain_start : (p : ℕ) (form : Form) (front behind : List ℕ) (kind low high : ℕ) → Selected form front kind low high → lexed p (front ++ behind) ≡ begun p (front ++ behind) Digit
plain_start p form front behind kind low high s =
    let whole : front ++ behind ≡ s.front ++ (s.behind ++ behind) = ap (λ l. l ++ behind) s.whole ∙ append_assoc s.front s.behind behind in
    ap (lexed p) whole ∙ digits_start p s.front (s.behind ++ behind) s.numeral.digits s.numeral.one_or_more ∙ ap (λ l. begun p l Digit) (sym whole)

each_plain : (p : ℕ) (form : Form) (front behind : List ℕ) (kind low high w : ℕ) → Selected form front kind low high → Ends (goes_on form) behind → length front ≡ w
    → lexed p (front ++ behind) ≡ Ok (atom (some kind low high) w)
each_plain p form front behind kind low high w s ends wide =
    plain_start p form front behind kind low high s ∙ ap (λ r. after r (λ x. Ok (named false x))) (codes_each p form front behind kind low high s ends)
    ∙ same_width (some kind low high) (length front + 0) w (omega arith)

each_inverted : (p : ℕ) (form : Form) (front behind : List ℕ) (kind low high w : ℕ) → Selected form front kind low high → Ends (goes_on form) behind → length (33 ∷ front) ≡ w
    → lexed p (33 ∷ (front ++ behind)) ≡ Ok (atom (others kind low high) w)
each_inverted p form front behind kind low high w s ends wide =
    ap (λ r. after r (λ x. Ok (named true x))) (codes_each (p + 1) form front behind kind low high s ends)
    ∙ same_width (others kind low high) (length front + 1) w (omega arith)

each_form : (p : ℕ) (form : Form) (front behind : List ℕ) (m : Meaning) (w : ℕ) → AtomText form front m → Ends (goes_on form) behind → length front ≡ w
    → lexed p (front ++ behind) ≡ Ok (atom m w)
each_form p form front behind m w (is_dot is text means) ends wide =
    let one : 1 ≡ w = sym (ap length text) ∙ wide in
    ap (λ l. lexed p (l ++ behind)) text ∙ same_width any 1 w one ∙ ap (λ x. Ok (atom x w)) (sym means)
each_form p form front behind m w (is_plain kind low high s means) ends wide =
    each_plain p form front behind kind low high w s ends wide ∙ ap (λ x. Ok (atom x w)) (sym means)
each_form p form front behind m w (is_inverted rest kind low high text s means) ends wide =
    ap (λ l. lexed p (l ++ behind)) text ∙ each_inverted p form rest behind kind low high w s ends (sym (ap length text) ∙ wide)
    ∙ ap (λ x. Ok (atom x w)) (sym means)

pub lexed_each : (p : ℕ) (bs : List ℕ) (m : Meaning) (w : ℕ) → AtomAt bs m w → lexed p bs ≡ Ok (atom m w)
lexed_each p bs m w a = ap (lexed p) a.whole ∙ each_form p a.form a.front a.behind m w a.atom a.ends a.width

small_values : (form : Form) (bs : List ℕ) (low high : ℕ) → Values form bs low high → high ≤ 65535
small_values dot bs low high is = absurd is
small_values kind_alone bs low high is = omega (arith, is.2)
small_values one_value bs low high is = omega (arith, is.3, is.2.bound)
small_values two_values bs low high is = is.4.bound

small : (form : Form) (bs : List ℕ) (m : Meaning) → AtomText form bs m → Small m
small form bs m (is_dot is text means) = subst Small (sym means) tt
small form bs m (is_plain kind low high s means) = subst Small (sym means) (small_values form s.behind low high s.values)
small form bs m (is_inverted rest kind low high text s means) = subst Small (sym means) (small_values form s.behind low high s.values)

pub atom_passes : (bs : List ℕ) (m : Meaning) (w : ℕ) → AtomAt bs m w → Passes (test_of m) m
atom_passes bs m w a = passing m (small a.form a.front m a.atom)
