-- The events of a text, word by word.
use Rattle.std.proofs.Common.{◌≡◌, ℕ, ◌+◌, List, [], ◌∷◌, ◌++◌, length, Some, None, Ok, Err, Option, Result, sym, refl, ap, ◌∙◌, append_assoc, append-nil, arith}
use Rattle.symbols.specs.declared.Event.{Event}
use Rattle.script.specs.Symbols.{event_of}
use Rattle.records.specs.Blanks.{stripped}
use Rattle.records.specs.Words.{and_word, words_of, and_event, events_from}

-- the events so far, and what is still to come
abbrev pub joined : List Event → Result (List Event) ℕ → Result (List Event) ℕ
joined es (Ok more) = Ok (es ++ more)
joined es (Err k) = Err k

moved : (es : List Event) (e : Event) (n : ℕ) (r : Result (List Event) ℕ) → joined es (and_event (Some e) n r) ≡ joined (es ++ e ∷ []) r
moved es e n (Ok more) = ap Ok (sym (append_assoc es (e ∷ []) more))
moved es e n (Err k) = refl

abbrev pub to_read : List Event → ℕ → List (List ℕ) → Result (List Event) ℕ
to_read es n ps = joined es (events_from n (words_of ps))

no_word : (w : List ℕ) (ws : List (List ℕ)) → length w ≡ 0 → and_word w ws ≡ ws
no_word [] ws h = refl
no_word (x ∷ xs) ws h = absurd (omega arith)

a_word : (w : List ℕ) (ws : List (List ℕ)) → (length w ≡ 0 → ⊥) → and_word w ws ≡ w ∷ ws
a_word [] ws h = absurd (h refl)
a_word (x ∷ xs) ws h = refl

module _ (es : List Event) (n : ℕ) (p w : List ℕ) (ps qs : List (List ℕ)) (is_word : w ≡ stripped p) (is_rest : ps ≡ p ∷ qs) where
  next : to_read es n ps ≡ joined es (events_from n (and_word w (words_of qs)))
  next = ap (to_read es n) is_rest ∙ sym (ap (λ v. joined es (events_from n (and_word v (words_of qs)))) is_word)

  pub passed : length w ≡ 0 → to_read es n qs ≡ to_read es n ps
  passed h = sym (next ∙ ap (λ ws. joined es (events_from n ws)) (no_word w (words_of qs) h))

  word : (length w ≡ 0 → ⊥) → (o : Option Event) → o ≡ event_of w → to_read es n ps ≡ joined es (and_event o n (events_from (n + 1) (words_of qs)))
  word h o is =
      next ∙ ap (λ ws. joined es (events_from n ws)) (a_word w (words_of qs) h)
      ∙ sym (ap (λ v. joined es (and_event v n (events_from (n + 1) (words_of qs)))) is)

  pub read : (length w ≡ 0 → ⊥) → (e : Event) → Some e ≡ event_of w → (more : List Event) → more ≡ es ++ e ∷ [] → to_read more (n + 1) qs ≡ to_read es n ps
  read h e is more pushed =
      ap (λ l. to_read l (n + 1) qs) pushed ∙ sym (word h (Some e) is ∙ moved es e n (events_from (n + 1) (words_of qs)))

  pub wrong : (length w ≡ 0 → ⊥) → None ≡ event_of w → to_read es n ps ≡ Err n
  wrong h is = word h None is

pub all : (es : List Event) (n : ℕ) (ps : List (List ℕ)) → ps ≡ [] → to_read es n ps ≡ Ok es
all es n ps e = ap (to_read es n) e ∙ ap Ok (append-nil es)
