-- One token taken in, and how far the text has been taken in.
use Rattle.std.proofs.Common.{◌≡◌, ℕ, ◌+◌, ◌<◌, ◌≤◌, List, [], ◌∷◌, ◌++◌, length, take, drop, Ok, Err, Result, sym, refl, ap, ◌∙◌, subst, append-nil, arith, length-drop}
use Rattle.std.proofs.lemmas.List.{drop-drop, drop_all}
use Rattle.collector.specs.declared.Collector.{Collector}
use Rattle.collector.specs.Pushing.{Pushed, held, size}
use Rattle.refusal.specs.declared.Refusal.{Refusal}
use Rattle.items.specs.declared.Item.{Item}
use Rattle.items.specs.declared.Lexeme.{Lexeme}
use Rattle.items.specs.declared.Placed.{Placed}
use Rattle.items.specs.declared.Sign.{Sign as OneSign}
use Rattle.items.specs.declared.Token.{Token}
use Rattle.items.specs.declared.Token.TheVariants.{Space, Sign, Atom}
use Rattle.grammar.specs.Grammar.{at, sign}
use Rattle.grammar.proofs.Writes.{pushed}
use Rattle.reader.specs.Rows.{Lexer, Found, found, Stands, Row, with_item, items, tests}
use Rattle.reader.specs.Steps.{kept, Took, Whole, Stopped}
use Rattle.reader.proofs.Rows.{row_more, items_more, tests_more}

module _ {T : Type 0} (token : Token T) (p : ℕ) (ts : List T) (b : Collector Placed) where
  pub took_space : token ≡ Space → Took token p ts ts b b
  took_space e =
      let n : b.used ≡ b.used + 0 = omega arith in
      subst (λ z. Took z p ts ts b b) (sym e) (record { tests = refl; wrote = record { entries = sym (append-nil (held b)); count = n; same_size = refl; lender = refl } })

  pub took_sign : (a : Collector Placed) (r : Result (Unit {0}) Placed) → {s : OneSign} → token ≡ Sign s → b.used < size b → Pushed b a (sign s p) r → Took token p ts ts b a
  took_sign a r {s} e h w = subst (λ z. Took z p ts ts b a) (sym e) (record { tests = refl; wrote = pushed b a (sign s p) r h w })

  pub took_atom : (us : List T) (a : Collector Placed) (r : Result (Unit {0}) Placed) (t : T) → token ≡ Atom t → b.used < size b → Pushed b a (at Item.Atom p) r → us ≡ take 63 (ts ++ t ∷ []) → Took token p ts us b a
  took_atom us a r t e h w k = subst (λ z. Took z p ts us b a) (sym e) (record { tests = k; wrote = pushed b a (at Item.Atom p) r h w })

pub at_most_one : {T : Type 0} (t : Token T) (p : ℕ) → length (with_item t p []) ≤ 1
at_most_one Space p = omega arith
at_most_one (Sign s) p = omega arith
at_most_one (Atom t) p = omega arith

-- the lexemes before the place are taken in
pub record Reached {T : Type 0} (lexed : Lexer T) (text : List ℕ) (ts : List T) (xs : List Placed) (place : ℕ) : Type 0 where
  pub found : List (Found T)
  pub row : Row lexed 0 text found place (drop place text)
  pub tested : ts ≡ take 63 (tests found)
  pub placed : xs ≡ items found

module _ {T : Type 0} (lexed : Lexer T) (text : List ℕ) where
  pub reached_none : (ts : List T) (xs : List Placed) → ts ≡ [] → xs ≡ [] → Reached lexed text ts xs 0
  reached_none ts xs e d = record { found = []; row = (refl, refl); tested = e; placed = d }

  pub reached_more : (ts us : List T) (b a : Collector Placed) (p : ℕ) (x : Lexeme T) → Reached lexed text ts (held b) p
      → Ok x ≡ lexed p (drop p text) → 0 < x.width → p + x.width ≤ length text → Took x.token p ts us b a → Reached lexed text us (held a) (p + x.width)
  reached_more ts us b a p x r e wide within t =
      let f = found x.token p in
      let fits : x.width ≤ length (drop p text) = omega (arith, length-drop p text) in
      let s : Stands lexed p (drop p text) f x.width = record { is = sym e; here = refl; wide = wide; within = fits } in
      record {
        found = r.found ++ f ∷ [];
        row = subst (Row lexed 0 text (r.found ++ f ∷ []) (p + x.width)) (drop-drop x.width p text) (row_more lexed 0 text r.found p (drop p text) f x.width r.row s);
        tested = t.tests ∙ ap (kept x.token) r.tested ∙ tests_more r.found f;
        placed = t.wrote.entries ∙ ap (λ l. l ++ with_item x.token p []) r.placed ∙ sym (items_more r.found f);
      }

  pub reached_all : (ts : List T) (xs : List Placed) (p : ℕ) → Reached lexed text ts xs p → length text ≤ p → p ≤ length text → Whole lexed text ts xs
  reached_all ts xs p r h k =
      let n : p ≡ length text = omega arith in
      record {
        found = r.found;
        row = subst (λ z. Row lexed 0 text r.found z []) n (subst (Row lexed 0 text r.found p) (drop_all p text h) r.row);
        tested = r.tested;
        placed = r.placed;
      }

  pub reached_stop : (ts : List T) (xs : List Placed) (p : ℕ) (e : Refusal) → Reached lexed text ts xs p → p < length text → Err e ≡ lexed p (drop p text) → Stopped lexed text e
  reached_stop ts xs p e r h d =
      record { found = r.found; place = p; rest = drop p text; row = r.row; some = omega (arith, length-drop p text); is = sym d }

  pub whole_at : (ts : List T) (xs ys : List Placed) → Whole lexed text ts xs → ys ≡ xs → Whole lexed text ts ys
  whole_at ts xs ys w e = record { found = w.found; row = w.row; tested = w.tested; placed = e ∙ w.placed }
