-- What is read stands in the text, and nothing else does.
use Rattle.std.proofs.Common.{◌≡◌, ℕ, ◌+◌, ◌<◌, ◌≤◌, true, false, List, [], ◌∷◌, ◌++◌, length, get_or, drop, Ok, Err, Result, sym, refl, ap, ◌∙◌, subst, ⊎_elim, append_assoc}
use Rattle.std.proofs.lemmas.List.{drop_more}
use Rattle.std.proofs.lemmas.Bool.{cases_Bool, cases_eq, cases_lt}
use Rattle.refusal.specs.declared.Cause.{Cause}
use Rattle.refusal.specs.declared.Cause.TheVariants.{ReversedRange, BadNumber}
use Rattle.refusal.specs.declared.Refusal.{Refusal}
use Rattle.items.specs.declared.Lexeme.{Lexeme}
use Rattle.items.specs.Lexemes.{sign_byte}
use Rattle.items.specs.declared.Sign.{Sign as OneSign}
use Rattle.items.specs.declared.Sign.TheVariants.{Open, Close, Bar, Star, Plus, Query}
use Rattle.items.specs.declared.Token.{Token}
use Rattle.items.specs.declared.Token.TheVariants.{Space, Sign, Atom}
use Rattle.symbols.specs.declared.EventTest.{EventTest}
use Rattle.event_notation.specs.Numbers.{digit}
use Rattle.event_notation.specs.Spans.{begins}
use Rattle.event_notation.specs.Reading.{lexed}
use Rattle.event_notation.specs.Atoms.{Meaning, any, some, others, Numeral, Form, dot, kind_alone, one_value, two_values, Selected, is_dot, is_plain, is_inverted, goes_on, Ends, AtomAt}
use Rattle.event_notation.specs.Refusals.{the_kind, first_value, second_value, Due, in_front, behind_bang, behind_colon, behind_dash, Refused, nothing_begins, no_number, reversed}
use Rattle.event_notation.specs.Law.{Stands, Reads, Law, Lawful}
use Rattle.event_notation.proofs.Numerals.{Front, number, none, front}
use Rattle.event_notation.proofs.Valuing.{begins_split, ends_with}
use Rattle.event_notation.proofs.Lexing.{lexed_each, atom_passes}
use Rattle.event_notation.proofs.Refusing.{refusals_read}

-- where a kind is due, it stands with its values, or the text is refused
data Outcome (place : ℕ) (text bs : List ℕ) : Type 0 where
  selects : (form : Form) (picked behind : List ℕ) (kind low high : ℕ) → bs ≡ picked ++ behind → Selected form picked kind low high → Ends (goes_on form) behind → Outcome place text bs
  fails : (cause : Cause) (at : ℕ) → Refused place text cause at → Outcome place text bs

module _ (place : ℕ) (text : List ℕ) (at : ℕ) (ks : List ℕ) (kind : ℕ) (num : Numeral 255 ks kind) where
  -- behind a value and -
  with_second : (vs rest : List ℕ) (low : ℕ) → Numeral 65535 vs low → Due place text first_value (at + length ks + 1) (vs ++ 45 ∷ rest) → Outcome place text (ks ++ 58 ∷ (vs ++ 45 ∷ rest))
  with_second vs rest low first due = by (front 65535 rest)
    where
      pair : (ws behind : List ℕ) (high : ℕ) → rest ≡ ws ++ behind → Numeral 65535 ws high → Ends digit behind → low ≤ high → Outcome place text (ks ++ 58 ∷ (vs ++ 45 ∷ rest))
      pair ws behind high whole second ends h =
          selects two_values (ks ++ 58 ∷ (vs ++ 45 ∷ ws)) behind kind low high
          (ap (λ l. ks ++ 58 ∷ (vs ++ 45 ∷ l)) whole ∙ ap (λ l. ks ++ 58 ∷ l) (sym (append_assoc vs (45 ∷ ws) behind)) ∙ sym (append_assoc ks (58 ∷ (vs ++ 45 ∷ ws)) behind))
          (record { front = ks; behind = 58 ∷ (vs ++ 45 ∷ ws); whole = refl; numeral = num; values = (vs, ws, refl, first, second, h) }) ends

      by : Front 65535 rest → Outcome place text (ks ++ 58 ∷ (vs ++ 45 ∷ rest))
      by (none lacks) = fails BadNumber _ (no_number second_value _ rest (behind_dash _ vs rest low due first) lacks)
      by (number ws behind high whole second ends) =
          ⊎_elim
          (λ (h : high < low). fails ReversedRange _ (reversed _ vs ws behind low high (subst (λ l. Due place text first_value (at + length ks + 1) (vs ++ 45 ∷ l)) whole due) first second ends h))
          (λ (h : low ≤ high). pair ws behind high whole second ends h)
          (cases_lt high low)

  -- behind a kind and a colon
  with_first : (rest : List ℕ) → Due place text the_kind at (ks ++ 58 ∷ rest) → Outcome place text (ks ++ 58 ∷ rest)
  with_first rest due = by (front 65535 rest)
    where
      next : Due place text first_value (at + length ks + 1) rest
      next = behind_colon at ks rest kind due num

      by : Front 65535 rest → Outcome place text (ks ++ 58 ∷ rest)
      by (none lacks) = fails BadNumber _ (no_number first_value _ rest next lacks)
      by (number vs behind low whole first ends) =
          ⊎_elim
          (λ (dash : begins 45 behind ≡ true).
          let split : rest ≡ vs ++ 45 ∷ drop 1 behind = whole ∙ ap (λ l. vs ++ l) (begins_split 45 behind dash) in
          subst (λ l. Outcome place text (ks ++ 58 ∷ l)) (sym split) (with_second vs (drop 1 behind) low first (subst (Due place text first_value (at + length ks + 1)) split next)))
          (λ (no_dash : begins 45 behind ≡ false).
          selects one_value (ks ++ 58 ∷ vs) behind kind low low (ap (λ l. ks ++ 58 ∷ l) whole ∙ sym (append_assoc ks (58 ∷ vs) behind))
          (record { front = ks; behind = 58 ∷ vs; whole = refl; numeral = num; values = (vs, refl, first, refl) }) (ends_with 45 behind ends no_dash))
          (cases_Bool (begins 45 behind))

outcome : (place : ℕ) (text : List ℕ) (at : ℕ) (bs : List ℕ) → Due place text the_kind at bs → Outcome place text bs
outcome place text at bs due = by (front 255 bs)
  where
    by : Front 255 bs → Outcome place text bs
    by (none lacks) = fails BadNumber at (no_number the_kind at bs due lacks)
    by (number ks behind kind whole num ends) =
        ⊎_elim
        (λ (colon : begins 58 behind ≡ true).
        let split : bs ≡ ks ++ 58 ∷ drop 1 behind = whole ∙ ap (λ l. ks ++ l) (begins_split 58 behind colon) in
        subst (Outcome place text) (sym split) (with_first place text at ks kind num (drop 1 behind) (subst (Due place text the_kind at) split due)))
        (λ (no_colon : begins 58 behind ≡ false).
        selects kind_alone (ks ++ []) behind kind 0 65535 (whole ∙ sym (append_assoc ks [] behind))
        (record { front = ks; behind = []; whole = refl; numeral = num; values = (refl, refl, refl) }) (ends_with 58 behind ends no_colon))
        (cases_Bool (begins 58 behind))

signs_read : (place : ℕ) (s : OneSign) (behind : List ℕ) → lexed place (sign_byte s ∷ behind) ≡ Ok (record { token = Sign s; width = 1 })
signs_read place Open behind = refl
signs_read place Close behind = refl
signs_read place Bar behind = refl
signs_read place Star behind = refl
signs_read place Plus behind = refl
signs_read place Query behind = refl

reads_sign : (place : ℕ) (s : OneSign) (behind : List ℕ) → Reads place (sign_byte s ∷ behind) (lexed place (sign_byte s ∷ behind))
reads_sign place s behind = subst (Reads place (sign_byte s ∷ behind)) (sym (signs_read place s behind)) (behind, refl, refl)

reads_atom : (place : ℕ) (text : List ℕ) (m : Meaning) (w : ℕ) → AtomAt text m w → Reads place text (lexed place text)
reads_atom place text m w a = subst (Reads place text) (sym (lexed_each place text m w a)) (m, a, refl, atom_passes text m w a)

reads_refused : (place : ℕ) (text : List ℕ) (cause : Cause) (at : ℕ) → Refused place text cause at → Reads place text (lexed place text)
reads_refused place text cause at f = subst (Reads place text) (sym (refusals_read f)) f

never : (bs : List ℕ) → Ends (goes_on dot) bs
never [] = tt
never (b ∷ bs) = refl

reads_dot : (place : ℕ) (behind : List ℕ) → Reads place (46 ∷ behind) (lexed place (46 ∷ behind))
reads_dot place behind =
    reads_atom place (46 ∷ behind) any 1
    (record { form = dot; front = 46 ∷ []; behind = behind; whole = refl; width = refl; atom = is_dot refl refl refl; ends = never behind })

reads_bang : (place : ℕ) (rest : List ℕ) → Reads place (33 ∷ rest) (lexed place (33 ∷ rest))
reads_bang place rest = by (outcome place (33 ∷ rest) (place + 1) rest (behind_bang rest refl))
  where
    by : Outcome place (33 ∷ rest) rest → Reads place (33 ∷ rest) (lexed place (33 ∷ rest))
    by (fails cause at f) = reads_refused place (33 ∷ rest) cause at f
    by (selects form picked behind kind low high whole s ends) =
        reads_atom place (33 ∷ rest) (others kind low high) (length (33 ∷ picked))
        (record { form = form; front = 33 ∷ picked; behind = behind; whole = ap (λ l. 33 ∷ l) whole; width = refl; atom = is_inverted picked kind low high refl s refl; ends = ends })

reads_digit : (place b : ℕ) (rest : List ℕ) → digit b ≡ true → Reads place (b ∷ rest) (lexed place (b ∷ rest))
reads_digit place b rest is = by (outcome place (b ∷ rest) place (b ∷ rest) (in_front b rest refl is))
  where
    by : Outcome place (b ∷ rest) (b ∷ rest) → Reads place (b ∷ rest) (lexed place (b ∷ rest))
    by (fails cause at f) = reads_refused place (b ∷ rest) cause at f
    by (selects form picked behind kind low high whole s ends) =
        reads_atom place (b ∷ rest) (some kind low high) (length picked)
        (record { form = form; front = picked; behind = behind; whole = whole; width = refl; atom = is_plain kind low high s refl; ends = ends })

-- a fact of a byte: of the byte k, and of any other
at_byte : (P : ℕ → Type 0) (b k : ℕ) → P k → ((b ≡ k → ⊥) → P b) → P b
at_byte P b k here elsewhere = ⊎_elim (λ (e : b ≡ k). subst P (sym e) here) elsewhere (cases_eq b k)

-- a fact of a byte: of each sign, and of any other
at_sign : (P : ℕ → Type 0) (b : ℕ) → ((s : OneSign) → P (sign_byte s)) → (((s : OneSign) → b ≡ sign_byte s → ⊥) → P b) → P b
at_sign P b here elsewhere =
    at_byte P b 40 (here Open)
    (λ n0. at_byte P b 41 (here Close)
    (λ n1. at_byte P b 124 (here Bar)
    (λ n2. at_byte P b 42 (here Star)
    (λ n3. at_byte P b 43 (here Plus)
    (λ n4. at_byte P b 63 (here Query)
    (λ n5. elsewhere (each n0 n1 n2 n3 n4 n5)))))))
  where
    each : (b ≡ 40 → ⊥) → (b ≡ 41 → ⊥) → (b ≡ 124 → ⊥) → (b ≡ 42 → ⊥) → (b ≡ 43 → ⊥) → (b ≡ 63 → ⊥) → (s : OneSign) → b ≡ sign_byte s → ⊥
    each n0 n1 n2 n3 n4 n5 Open = n0
    each n0 n1 n2 n3 n4 n5 Close = n1
    each n0 n1 n2 n3 n4 n5 Bar = n2
    each n0 n1 n2 n3 n4 n5 Star = n3
    each n0 n1 n2 n3 n4 n5 Plus = n4
    each n0 n1 n2 n3 n4 n5 Query = n5

sound : (place b : ℕ) (rest : List ℕ) → Reads place (b ∷ rest) (lexed place (b ∷ rest))
sound place b rest =
    let P : ℕ → Type 0 = λ n. Reads place (n ∷ rest) (lexed place (n ∷ rest)) in
    at_byte P b 32 (rest, refl, refl)
    (λ no_space. at_sign P b (λ s. reads_sign place s rest)
    (λ no_sign. at_byte P b 46 (reads_dot place rest)
    (λ no_dot. at_byte P b 33 (reads_bang place rest)
    (λ no_bang.
    ⊎_elim
    (λ (is : digit b ≡ true). reads_digit place b rest is)
    (λ (no_digit : digit b ≡ false).
    reads_refused place (b ∷ rest) _ place
    (nothing_begins b rest refl (record { no_space = no_space; no_sign = no_sign; no_dot = no_dot; no_bang = no_bang; no_digit = no_digit })))
    (cases_Bool (digit b))))))

standing : (place : ℕ) (text : List ℕ) (t : Token EventTest) (w : ℕ) → Stands text t w → lexed place text ≡ Ok (record { token = t; width = w })
standing place text Space w s = ap (lexed place) s.1 ∙ ap (λ n. Ok (record { token = Space; width = n })) (sym s.2)
standing place text (Sign x) w s = ap (lexed place) s.1 ∙ signs_read place x s.0 ∙ ap (λ n. Ok (record { token = Sign x; width = n })) (sym s.2)
standing place text (Atom t) w s = lexed_each place text s.0 w s.1 ∙ ap (λ x. Ok (record { token = Atom x; width = w })) (sym s.2)

alone : (place : ℕ) (text : List ℕ) (r : Result (Lexeme EventTest) Refusal) → Reads place text r → lexed place text ≡ r
alone place text (Ok x) s = standing place text x.token x.width s
alone place text (Err e) f = refusals_read f

pub lawful : Lawful
lawful place b rest =
    record {
      reads = sound place b rest;
      alone = λ s is. sym (alone place (b ∷ rest) s is);
      passing = λ m w a. atom_passes (b ∷ rest) m w a;
    }

-- at a place of a text
pub lawful_at : (place : ℕ) (text : List ℕ) (r : Result (Lexeme EventTest) Refusal) → place < length text → r ≡ lexed place (drop place text) → Law place (drop place text) r
lawful_at place text r h e =
    let P : List ℕ → Type 0 = λ x. Law place x (lexed place x) in
    subst (Law place (drop place text)) (sym e) (subst P (sym (drop_more text place 0 h)) (lawful place (get_or text place 0) (drop (place + 1) text)))
