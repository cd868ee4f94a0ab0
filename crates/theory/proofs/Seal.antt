-- The positions that are made from the codes are those of the tree.
use Rattle.std.proofs.Common.{◌≡◌, ℕ, suc, Bool, false, ◌&&◌, ◌||◌, List, [], ◌∷◌, sym, refl, ap, ◌∙◌}
use mathlib.Core.Path.{fun_ext}
use mathlib.Core.Bool.{or_assoc, or-false}
use Rattle.pattern.specs.Tree.{Tree}
use Rattle.pattern.specs.Tree.Tree.{atom, join, choice, star, plus, maybe}
use Rattle.pattern.specs.Codes.{build, tree}
use Rattle.pattern.specs.declared.Code.{Code}
use Rattle.pattern.specs.declared.Code.TheVariants.{Atom, Join, Choice, Star, Plus, Maybe}
use Rattle.theory.specs.Positions.{positions, nullable, first, last, follow}
use Rattle.theory.specs.Seal.{Part, link, seal, or_none, sealed}

abbrev pub part_of : Tree → Part
part_of t = record { nullable = nullable t; first = first t; last = last t }

abbrev pub parts : List Tree → List Part
parts [] = []
parts (t ∷ st) = part_of t ∷ parts st

-- q follows p in some tree of the stack
abbrev stacked : List Tree → ℕ → ℕ → Bool
stacked [] p q = false
stacked (t ∷ st) p q = stacked st p q || follow t p q

abbrev Rows : List Tree → (ℕ → ℕ → Bool) → Type 0
Rows st f = (p q : ℕ) → f p q ≡ stacked st p q

four : (s l r x : Bool) → (s || l || r || x) ≡ (s || (l || r || x))
four s l r x = ap (λ y. y || x) (or_assoc s l r) ∙ or_assoc s (l || r) x

rows_join : (st : List Tree) (l r : Tree) (f : ℕ → ℕ → Bool) → Rows (r ∷ l ∷ st) f → Rows (join l r ∷ st) (link (last l) (first r) f)
rows_join st l r f h p q =
    ap (λ y. y || last l p && first r q) (h p q) ∙ four (stacked st p q) (follow l p q) (follow r p q) (last l p && first r q)

rows_choice : (st : List Tree) (l r : Tree) (f : ℕ → ℕ → Bool) → Rows (r ∷ l ∷ st) f → Rows (choice l r ∷ st) f
rows_choice st l r f h p q = h p q ∙ or_assoc (stacked st p q) (follow l p q) (follow r p q)

rows_loop : (st : List Tree) (t : Tree) (f : ℕ → ℕ → Bool) → Rows (t ∷ st) f → Rows (star t ∷ st) (link (last t) (first t) f)
rows_loop st t f h p q =
    ap (λ y. y || last t p && first t q) (h p q) ∙ or_assoc (stacked st p q) (follow t p q) (last t p && first t q)

seal_is : (cs : List Code) (n : ℕ) (st : List Tree) (f : ℕ → ℕ → Bool) → Rows st f → or_none (seal cs n (parts st) f) ≡ positions (build cs n st)
seal_is [] n [] f h = refl
seal_is [] n (u ∷ []) f h =
    ap (λ g. record { nullable = nullable u; first = first u; last = last u; follow = g }) (fun_ext (λ p. fun_ext (λ q. h p q)))
seal_is [] n (u ∷ v ∷ st) f h = refl
seal_is (Atom ∷ cs) n st f h = seal_is cs (suc n) (atom n ∷ st) f (λ p q. h p q ∙ sym (or-false (stacked st p q)))
seal_is (Join ∷ cs) n [] f h = refl
seal_is (Join ∷ cs) n (r ∷ []) f h = refl
seal_is (Join ∷ cs) n (r ∷ l ∷ st) f h = seal_is cs n (join l r ∷ st) (link (last l) (first r) f) (rows_join st l r f h)
seal_is (Choice ∷ cs) n [] f h = refl
seal_is (Choice ∷ cs) n (r ∷ []) f h = refl
seal_is (Choice ∷ cs) n (r ∷ l ∷ st) f h = seal_is cs n (choice l r ∷ st) f (rows_choice st l r f h)
seal_is (Star ∷ cs) n [] f h = refl
seal_is (Star ∷ cs) n (u ∷ st) f h = seal_is cs n (star u ∷ st) (link (last u) (first u) f) (rows_loop st u f h)
seal_is (Plus ∷ cs) n [] f h = refl
seal_is (Plus ∷ cs) n (u ∷ st) f h = seal_is cs n (plus u ∷ st) (link (last u) (first u) f) (rows_loop st u f h)
seal_is (Maybe ∷ cs) n [] f h = refl
seal_is (Maybe ∷ cs) n (u ∷ st) f h = seal_is cs n (maybe u ∷ st) f h

pub sealed_is : (cs : List Code) → sealed cs ≡ positions (tree cs)
sealed_is cs = seal_is cs 1 [] (λ p q. false) (λ p q. refl)
