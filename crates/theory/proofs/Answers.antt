-- Each pattern has one answer to a find and one to a list, found over its own machine.
use Rattle.std.proofs.Common.{◌≡◌, ℕ, Bool, List, Some, None, Option, refl, ap, ◌∙◌}
use Rattle.pattern.specs.Tree.{Tree}
use Rattle.pattern.specs.declared.Code.{Code}
use Rattle.pattern.specs.Codes.{tree, Numbered}
use Rattle.pattern.proofs.Codes.{tree_is}
use Rattle.theory.specs.declared.Span.{Span}
use Rattle.theory.specs.Words.{Words}
use Rattle.theory.specs.Positions.{positions, FromOne}
use Rattle.theory.specs.Spans.{Finds, Lists}
use Rattle.theory.specs.Scans.{Listing, find, list}
use Rattle.theory.specs.Masks.{machine}
use Rattle.theory.specs.Theorems.{One}
use Rattle.theory.proofs.Tells.{tells}
use Rattle.theory.proofs.Find.{finds_one, find_finds}
use Rattle.theory.proofs.Lists.{lists_one, list_lists}
use Rattle.theory.proofs.Masks.{machine_lawful}

-- the tree of any codes is numbered from 1
pub numbered : (codes : List Code) → FromOne (tree codes)
numbered codes = go (tree codes) (λ t e. ((tree_is codes t).0 e).1)
  where
    go : (o : Option Tree) → ((t : Tree) → o ≡ Some t → Numbered 1 t) → FromOne o
    go None h = tt
    go (Some t) h = h t refl

module _ {Sym : Type 0} (passes : ℕ → Sym → Bool) (o : Option Tree) (h : FromOne o) (r : List Sym) (from : ℕ) where
  pub one_find : One (Finds (Words passes o) r from)
  one_find =
      let f = find_finds passes (positions o) (machine passes o) (machine_lawful passes o h) (Words passes o) (tells passes o h) r from in
      (find (machine passes o) r from, f, λ g y. finds_one (Words passes o) r from g (find (machine passes o) r from) y f)

  pub one_list : (entries : ℕ) → One (λ (l : Listing). Lists (Words passes o) r from entries l.written l.rest)
  one_list k =
      let l : Listing = list (machine passes o) r k from in
      let f : Lists (Words passes o) r from k l.written l.rest = list_lists passes (positions o) (machine passes o) (machine_lawful passes o h) (Words passes o) (tells passes o h) r k from in
      (l, f, λ g y. let e = lists_one (Words passes o) r y f in both g l e.0 e.1)
    where
      both : (g l : Listing) → g.written ≡ l.written → g.rest ≡ l.rest → g ≡ l
      both g l e q =
          ap (λ (xs : List Span). record { written = xs; rest = g.rest }) e ∙ ap (λ (x : Option ℕ). record { written = l.written; rest = x }) q
