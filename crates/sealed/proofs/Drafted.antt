-- What is sealed is the pattern of the draft.
use Rattle.std.proofs.Common.{◌≡◌, ℕ, ◌≤◌, leb, List, [], ◌∷◌, ◌++◌, length, take, Some, None, Option, sym, refl, ap, ◌∙◌, arith}
use Rattle.std.proofs.lemmas.List.{take_all, length-take}
use Rattle.std.proofs.lemmas.Bool.{and_from, le-leb, cond-true}
use Rattle.pattern.specs.declared.Code.{Code}
use Rattle.pattern.specs.declared.Code.TheVariants.{Join, Choice, Star, Plus, Maybe}
use Rattle.pattern.specs.Tree.{Tree}
use Rattle.pattern.specs.Tree.Tree.{atom, join, choice, star, plus, maybe}
use Rattle.pattern.specs.Codes as codes
use Rattle.pattern.specs.Codes.{tree, TreeOf, count}
use Rattle.pattern.proofs.Codes.{tree_is}
use Rattle.theory.specs.Positions.{atoms}
use Rattle.sealed.specs.Assembling.{atom_codes}
use Rattle.sealed.specs.Plans.{fits, sealable, SealedOf}
use Rattle.sealed.proofs.Showing.{atoms_append}

-- the codes of a tree have its atoms
atoms_tree : (t : Tree) → atom_codes (codes.codes_of t) ≡ count t
atoms_tree (atom n) = refl
atoms_tree (join l r) =
    let x = atoms_append (codes.codes_of l) (codes.codes_of r ++ (Join ∷ [])) in let y = atoms_append (codes.codes_of r) (Join ∷ []) in let a = atoms_tree l in let b = atoms_tree r in omega arith
atoms_tree (choice l r) =
    let x = atoms_append (codes.codes_of l) (codes.codes_of r ++ (Choice ∷ [])) in let y = atoms_append (codes.codes_of r) (Choice ∷ []) in let a = atoms_tree l in let b = atoms_tree r in omega arith
atoms_tree (star t) = let x = atoms_append (codes.codes_of t) (Star ∷ []) in let a = atoms_tree t in omega arith
atoms_tree (plus t) = let x = atoms_append (codes.codes_of t) (Plus ∷ []) in let a = atoms_tree t in omega arith
atoms_tree (maybe t) = let x = atoms_append (codes.codes_of t) (Maybe ∷ []) in let a = atoms_tree t in omega arith

-- so a pattern has as many atoms as its codes
few_atoms : (cs : List Code) (o : Option Tree) → tree cs ≡ o → atom_codes cs ≤ 63 → atoms o ≤ 63
few_atoms cs None e l = omega arith
few_atoms cs (Some t) e l = let h : atom_codes cs ≡ count t = ap atom_codes (sym ((tree_is cs t).0 e).0) ∙ atoms_tree t in omega arith

pub few_kept : (cs ds : List Code) → ds ≡ cs → atom_codes cs ≤ 63 → atoms (tree ds) ≤ 63
few_kept cs ds e l = few_atoms ds (tree ds) refl (rw e l)

-- codes within the limits are kept
pub kept_whole : (cs ds : List Code) → ds ≡ cs → length cs ≤ 1023 → atom_codes cs ≤ 63 → ds ≡ sealable cs
kept_whole cs ds e l few =
    e ∙ sym (cond-true (fits cs) cs [] (and_from (leb (length cs) 1023) (leb (atom_codes cs) 63) (le-leb (length cs) 1023 l) (le-leb (atom_codes cs) 63 few)))

fits_tree : (cs : List Code) (t : Tree) → length cs ≤ 1023 → TreeOf cs t → count t ≤ 63 → sealable cs ≡ cs
fits_tree cs t l h few =
    let e : atom_codes cs ≡ count t = ap atom_codes (sym h.0) ∙ atoms_tree t in
    sym (kept_whole cs cs refl l (omega arith))

pub sealed_of : (cs ds : List Code) → length cs ≤ 1023 → ds ≡ sealable cs → SealedOf cs (tree ds)
sealed_of cs ds l e =
    record {
      kept = λ t h few. ap tree (e ∙ fits_tree cs t l h few) ∙ (tree_is cs t).1 h;
      empty = λ z. ap tree (e ∙ ap sealable z);
    }

-- a draft has no more tests than an alphabet keeps
pub all_kept : {X : Type 0} (ts : List X) (n : ℕ) → n ≤ 63 → take 63 (take n ts) ≡ take n ts
all_kept ts n l = take_all 63 (take n ts) (omega (arith, length-take n ts))
