-- The codes of a pattern are those of a tree.
use Rattle.std.proofs.Common.{◌≡◌, ℕ, ◌+◌, List, [], ◌∷◌, ◌++◌, sym, refl, ap, ◌∙◌, append_assoc, arith}
use Rattle.items.specs.declared.Item.{Item}
use Rattle.items.specs.declared.Sign.{Sign}
use Rattle.items.specs.declared.Placed.{Placed}
use Rattle.pattern.specs.declared.Code.{Code}
use Rattle.grammar.specs.Law.{Shaped}
use Rattle.pattern.proofs.Codes.{tree_is, tree_one}
use Rattle.grammar.specs.Grammar.{at, atoms, Pattern, Chain, Repeat, Single}
use Rattle.grammar.specs.Grammar.Pattern.{chain, choice}
use Rattle.grammar.specs.Grammar.Chain.{repeat, join}
use Rattle.grammar.specs.Grammar.Repeat.{unit, star, plus, maybe}
use Rattle.grammar.specs.Grammar.Single.{atom, group}
use Rattle.pattern.specs.Tree.{Tree}
use Rattle.pattern.specs.Codes.{codes_of, Numbered, count}

-- a tree from the number k on
record Treed (k : ℕ) (w : List Placed) (c : List Code) : Type 0 where
  tree : Tree
  codes : codes_of tree ≡ c
  numbered : Numbered k tree
  number : count tree ≡ atoms w

atoms_append : (u v : List Placed) → atoms (u ++ v) ≡ atoms u + atoms v
atoms_append [] v = omega arith
atoms_append (x ∷ u) v = omega (arith, atoms_append u v)

mutual
  pattern_tree : {n : ℕ} {w : List Placed} {c : List Code} → Pattern n w c → (k : ℕ) → Treed k w c
  pattern_tree (chain r) k = chain_tree r k
  pattern_tree (choice {u = u} {v = v} {a = a} {b = b} l p r) k =
      let x = pattern_tree l k in
      let y = chain_tree r (k + count x.tree) in
      record {
        tree = Tree.choice x.tree y.tree;
        codes = (λ i. x.codes i ++ (y.codes i ++ Code.Choice ∷ [])) ∙ sym (append_assoc a b (Code.Choice ∷ []));
        numbered = (x.numbered, y.numbered);
        number = omega (arith, x.number, y.number, atoms_append u (at (Item.Sign Sign.Bar) p ∷ v));
      }

  chain_tree : {n : ℕ} {w : List Placed} {c : List Code} → Chain n w c → (k : ℕ) → Treed k w c
  chain_tree (repeat r) k = repeat_tree r k
  chain_tree (join {u = u} {v = v} {a = a} {b = b} l r) k =
      let x = chain_tree l k in
      let y = repeat_tree r (k + count x.tree) in
      record {
        tree = Tree.join x.tree y.tree;
        codes = (λ i. x.codes i ++ (y.codes i ++ Code.Join ∷ [])) ∙ sym (append_assoc a b (Code.Join ∷ []));
        numbered = (x.numbered, y.numbered);
        number = omega (arith, x.number, y.number, atoms_append u v);
      }

  repeat_tree : {n : ℕ} {w : List Placed} {c : List Code} → Repeat n w c → (k : ℕ) → Treed k w c
  repeat_tree (unit s) k = single_tree s k
  repeat_tree (star {w = w} r p) k =
      let x = repeat_tree r k in
      record { tree = Tree.star x.tree; codes = ap (λ z. z ++ Code.Star ∷ []) x.codes; numbered = x.numbered; number = omega (arith, x.number, atoms_append w (at (Item.Sign Sign.Star) p ∷ [])) }
  repeat_tree (plus {w = w} r p) k =
      let x = repeat_tree r k in
      record { tree = Tree.plus x.tree; codes = ap (λ z. z ++ Code.Plus ∷ []) x.codes; numbered = x.numbered; number = omega (arith, x.number, atoms_append w (at (Item.Sign Sign.Plus) p ∷ [])) }
  repeat_tree (maybe {w = w} r p) k =
      let x = repeat_tree r k in
      record { tree = Tree.maybe x.tree; codes = ap (λ z. z ++ Code.Maybe ∷ []) x.codes; numbered = x.numbered; number = omega (arith, x.number, atoms_append w (at (Item.Sign Sign.Query) p ∷ [])) }

  single_tree : {n : ℕ} {w : List Placed} {c : List Code} → Single n w c → (k : ℕ) → Treed k w c
  single_tree (atom p) k = record { tree = Tree.atom k; codes = refl; numbered = refl; number = refl }
  single_tree (group {w = w} p q r) k =
      let x = pattern_tree r k in
      record { tree = x.tree; codes = x.codes; numbered = x.numbered; number = omega (arith, x.number, atoms_append w (at (Item.Sign Sign.Close) q ∷ [])) }

pub tree_of : (n : ℕ) (w : List Placed) (c : List Code) → Pattern n w c → Shaped c (atoms w)
tree_of n w c r =
    let x = pattern_tree r 1 in
    record { shape = x.tree; shaped = (x.codes, x.numbered); built = (tree_is c x.tree).1 (x.codes, x.numbered); atoms = x.number; sole = λ t h. tree_one c t x.tree h (x.codes, x.numbered) }
