-- From the lexemes and the checks of a text to its reading and the law.
use Rattle.std.proofs.Common.{◌≡◌, ℕ, ◌<◌, ◌≤◌, cond, List, [], ◌∷◌, ◌++◌, length, take, Some, None, Ok, Err, Option, Result, sym, refl, ap, ◌∙◌, subst, arith, le-ltb, lt-ltb}
use Rattle.std.proofs.lemmas.List.{take_all}
use Rattle.refusal.specs.declared.Cause.{Cause}
use Rattle.refusal.specs.declared.Cause.TheVariants.{TextTooLong, TooManyAtoms}
use Rattle.refusal.specs.declared.Refusal.{Refusal}
use Rattle.pattern.specs.declared.Code.{Code}
use Rattle.items.specs.declared.Placed.{Placed}
use Rattle.grammar.specs.Grammar.{Pattern}
use Rattle.grammar.specs.Law.{Shaped, Understood}
use Rattle.grammar.specs.Parse.{parse}
use Rattle.grammar.specs.Parse as Parse
use Rattle.reader.specs.Law.{RowOf, ReadsAs, Met}
use Rattle.reader.specs.Reading.{lex, refusal, by_structure, by_count, by_lexemes, reading}
use Rattle.reader.specs.Reading.Reading.{refused}
use Rattle.reader.specs.Rows.{Lexer, Found, Row, items, tests, surplus}
use Rattle.reader.specs.Steps.{Whole, Stopped, ByCount, Checked, Filled}
use Rattle.grammar.proofs.Sole.{met_refused}
use Rattle.reader.proofs.Atoms.{atoms_tests, Split, Tells, tells, none_past, few_none, found_past}
use Rattle.reader.proofs.Rows.{row_lex, row_stop}

module _ {T : Type 0} (lexed : Lexer T) (text : List ℕ) where
  long : 512 < length text → reading lexed text ≡ refused (refusal TextTooLong 512)
  long h = ap (λ b. cond b (refused (refusal TextTooLong 512)) (by_lexemes (length text) (lex lexed 0 0 text))) (lt-ltb 512 (length text) h)

  lexes : length text ≤ 512 → reading lexed text ≡ by_lexemes (length text) (lex lexed 0 0 text)
  lexes short = ap (λ b. cond b (refused (refusal TextTooLong 512)) (by_lexemes (length text) (lex lexed 0 0 text))) (le-ltb 512 (length text) short)

  counts : (fs : List (Found T)) → RowOf lexed text fs → reading lexed text ≡ by_count (length text) fs (surplus 63 (items fs))
  counts fs (short, w) = lexes short ∙ ap (by_lexemes (length text)) (row_lex lexed 0 text fs (length text) w)

  -- what is met is what is read
  meets : (k : Cause) (p : ℕ) → Met lexed text k p → reading lexed text ≡ refused (refusal k p)
  meets k p (Met.long h) = long h
  meets k p (Met.lexeme fs q rest e short row some is) = lexes short ∙ ap (by_lexemes (length text)) (row_stop lexed 0 text fs q rest e row some is)
  meets k p (Met.atom fs gs f t row n is) = counts (fs ++ f ∷ gs) row ∙ ap (by_count (length text) (fs ++ f ∷ gs)) (found_past 63 fs gs f t n is)
  meets k p (Met.structure fs row few m) =
      counts fs row ∙ ap (by_count (length text) fs) (few_none 63 fs few) ∙ ap (by_structure (tests fs)) (met_refused (length text) (items fs) k p m)

  -- so nothing else is
  sole : (e : Refusal) → reading lexed text ≡ refused e → (k : Cause) (p : ℕ) → Met lexed text k p → (k ≡ e.cause) × (p ≡ e.place)
  sole e h k p m =
      let q : reading lexed text ≡ refused (refusal k p) = meets k p m in
      let d : refusal k p ≡ e = cc in
      (ap (λ x. x.cause) d, ap (λ x. x.place) d)

  -- a text over 512 bytes
  pub too_long : 512 < length text → (ts : List T) (cs : List Code) → Filled lexed text ts cs (Err (refusal TextTooLong 512))
  too_long h ts cs =
      record {
        meaning = long h;
        law = record { none = λ us ds r. let k = r.row.0 in omega arith; met = Met.long h; only = sole (refusal TextTooLong 512) (long h) };
      }

  module _ (short : length text ≤ 512) where
    -- a lexeme cannot be read
    pub stopped : (e : Refusal) (ts : List T) (cs : List Code) → Stopped lexed text e → Filled lexed text ts cs (Err e)
    stopped e ts cs s =
        let stop = row_stop lexed 0 text s.found s.place s.rest e s.row s.some s.is in
        let said : reading lexed text ≡ refused e = lexes short ∙ ap (by_lexemes (length text)) stop in
        record {
          meaning = said;
          law =
              record {
                none = λ us ds r.
                    let go = row_lex lexed 0 text r.found (length text) r.row.1 in
                    let z : ◌≡◌ {A = ℕ} 0 1 = cc in
                    omega arith;
                met = Met.lexeme s.found s.place s.rest e short s.row s.some s.is;
                only = sole e said;
              };
        }

    -- the lexemes are those of any other row
    same_row : (fs : List (Found T)) → Row lexed 0 text fs (length text) [] → (us : List T) (ds : List Code) → (r : ReadsAs lexed text us ds) → r.found ≡ fs
    same_row fs w us ds r =
        let a : lex lexed 0 0 text ≡ Ok fs = row_lex lexed 0 text fs (length text) w in
        let b : lex lexed 0 0 text ≡ Ok r.found = row_lex lexed 0 text r.found (length text) r.row.1 in
        cc

    module _ (fs : List (Found T)) (w : Row lexed 0 text fs (length text) []) where
      -- too many atoms
      crowded : (p : ℕ) (ts : List T) (cs : List Code) → surplus 63 (items fs) ≡ Some p → Split 63 fs p → Filled lexed text ts cs (Err (refusal TooManyAtoms p))
      crowded p ts cs e s =
          let row : RowOf lexed text (s.before ++ s.here ∷ s.after) = subst (RowOf lexed text) s.whole (short, w) in
          let said : reading lexed text ≡ refused (refusal TooManyAtoms p) = counts fs (short, w) ∙ ap (by_count (length text) fs) e in
          record {
            meaning = said;
            law =
                record {
                  none = λ us ds r.
                      let same = same_row fs w us ds r in
                      let n : length us ≡ length (tests fs) = ap length r.tested ∙ ap (λ z. length (tests z)) same in
                      let f = r.few in
                      none_past 63 fs p s (omega arith);
                  met = subst (Met lexed text TooManyAtoms) s.place (Met.atom s.before s.after s.here s.test row s.number s.is);
                  only = sole (refusal TooManyAtoms p) said;
                };
          }

      -- not too many: the structure decides
      structured : (ts : List T) (cs : List Code) (r : Result (Unit {0}) Refusal) → ts ≡ take 63 (tests fs) → surplus 63 (items fs) ≡ None → length (tests fs) ≤ 63
          → parse (items fs) (length text) ≡ Parse.outcome r cs → Understood (items fs) (length text) cs r → Filled lexed text ts cs r
      structured ts cs (Ok u) t e few q l =
          let all : ts ≡ tests fs = t ∙ take_all 63 (tests fs) few in
          let n : length ts ≡ length (tests fs) = ap length all in
          record {
            meaning = counts fs (short, w) ∙ ap (by_count (length text) fs) e ∙ (λ i. by_structure (sym all i) (q i));
            law =
                record {
                  reads = record { found = fs; row = (short, w); tested = all; few = omega arith; pattern = l.pattern };
                  only = λ us ds r.
                      let same = same_row fs w us ds r in
                      (r.tested ∙ ap tests same ∙ sym all, l.only 32 ds (subst (λ z. Pattern 32 (items z) ds) same r.pattern));
                  treed = subst (Shaped cs) (atoms_tests fs ∙ sym n) l.treed;
                };
          }
      structured ts cs (Err e) t d few q l =
          let said : reading lexed text ≡ refused e = counts fs (short, w) ∙ ap (by_count (length text) fs) d ∙ ap (by_structure (tests fs)) q in
          record {
            meaning = said;
            law =
                record {
                  none = λ us ds r. l.none ds (subst (λ z. Pattern 32 (items z) ds) (same_row fs w us ds r) r.pattern);
                  met = Met.structure fs (short, w) few l.met;
                  only = sole e said;
                };
          }

      checks : (ts : List T) (cs : List Code) (r : Result (Unit {0}) Refusal) (o : Option ℕ) → surplus 63 (items fs) ≡ o → Tells 63 fs o → ts ≡ take 63 (tests fs)
          → ByCount o (items fs) (length text) cs r → Filled lexed text ts cs r
      checks ts cs r (Some p) e s t d = subst (Filled lexed text ts cs) (sym d) (crowded p ts cs e s)
      checks ts cs r None e few t (q, l) = structured ts cs r t e few q l

    -- every lexeme was read
    pub whole : (ts us : List T) (xs : List Placed) (cs : List Code) (r : Result (Unit {0}) Refusal) → Whole lexed text ts xs → us ≡ ts → Checked xs (length text) cs r → Filled lexed text us cs r
    whole ts us xs cs r w e k =
        checks w.found w.row us cs r (surplus 63 (items w.found)) refl (tells 63 w.found) (e ∙ w.tested) (subst (λ z. Checked z (length text) cs r) w.placed k)
