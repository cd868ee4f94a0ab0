-- A list of codes has at most one tree, and the stack machine finds it.
use Rattle.std.proofs.Common.{◌≡◌, ℕ, suc, ◌+◌, ◌↔◌, List, [], ◌∷◌, ◌++◌, Some, None, sym, refl, ap, ◌∙◌, append_assoc, append-nil, add_assoc, arith}
use Rattle.pattern.specs.Tree.{Tree}
use Rattle.pattern.specs.Tree.Tree.{atom, join, choice, star, plus, maybe}
use Rattle.pattern.specs.Codes.{codes_of, count, Numbered, TreeOf, build, tree}
use Rattle.pattern.specs.declared.Code.{Code}
use Rattle.pattern.specs.declared.Code.TheVariants.{Atom, Join, Choice, Star, Plus, Maybe}

-- the machine, over the codes of a numbered tree, pushes that tree
build_codes : (t : Tree) (n : ℕ) → Numbered n t → (cs : List Code) (st : List Tree) → build (codes_of t ++ cs) n st ≡ build cs (n + count t) (t ∷ st)
build_codes (atom k) n h cs st = let e : n + 1 ≡ suc n = omega arith in rw (e, h)
build_codes (join l r) n h cs st =
    rw (append_assoc (codes_of l) (codes_of r ++ (Join ∷ [])) cs, build_codes l n h.0, append_assoc (codes_of r) (Join ∷ []) cs, build_codes r (n + count l) h.1, add_assoc)
build_codes (choice l r) n h cs st =
    rw (append_assoc (codes_of l) (codes_of r ++ (Choice ∷ [])) cs, build_codes l n h.0, append_assoc (codes_of r) (Choice ∷ []) cs, build_codes r (n + count l) h.1, add_assoc)
build_codes (star t) n h cs st = rw (append_assoc, build_codes t n h)
build_codes (plus t) n h cs st = rw (append_assoc, build_codes t n h)
build_codes (maybe t) n h cs st = rw (append_assoc, build_codes t n h)

-- what the machine answers, its stack and its codes together are the tree's codes
abbrev stack_codes : List Tree → List Code
stack_codes [] = []
stack_codes (t ∷ st) = stack_codes st ++ codes_of t

abbrev Stacked : ℕ → List Tree → Type 0
Stacked n [] = n ≡ 1
Stacked n (t ∷ st) = (k : ℕ) × Stacked k st × Numbered k t × (n ≡ k + count t)

none_some : (t : Tree) → None ≡ Some t → ⊥
none_some t e = let z : ◌≡◌ {A = ℕ} 0 1 = cc in omega arith

two_codes : (st l r x y : List Code) → st ++ l ++ r ++ (x ++ y) ≡ st ++ (l ++ (r ++ x)) ++ y
two_codes st l r x y = simp append_assoc

build_sound : (cs : List Code) (n : ℕ) (st : List Tree) (t : Tree) → Stacked n st → build cs n st ≡ Some t → (codes_of t ≡ stack_codes st ++ cs) × Numbered 1 t
build_sound [] n [] t s e = absurd (none_some t e)
build_sound [] n (u ∷ []) t (k, one, h, q) e =
    let same : u ≡ t = cc in
    let g : Numbered 1 u = rw one at h in
    (rw (append-nil (codes_of u), same), rw same at g)
build_sound [] n (u ∷ v ∷ st) t s e = absurd (none_some t e)
build_sound (Atom ∷ cs) n st t s e =
    let r = build_sound cs (suc n) (atom n ∷ st) t (n, s, refl, omega arith) e in (r.0 ∙ append_assoc (stack_codes st) (Atom ∷ []) cs, r.1)
build_sound (Join ∷ cs) n [] t s e = absurd (none_some t e)
build_sound (Join ∷ cs) n (r ∷ []) t s e = absurd (none_some t e)
build_sound (Join ∷ cs) n (r ∷ l ∷ st) t (k, (j, s, hl, p), hr, q) e =
    let x = build_sound cs n (join l r ∷ st) t (j, s, (hl, rw p at hr), omega arith) e in
    (x.0 ∙ sym (two_codes (stack_codes st) (codes_of l) (codes_of r) (Join ∷ []) cs), x.1)
build_sound (Choice ∷ cs) n [] t s e = absurd (none_some t e)
build_sound (Choice ∷ cs) n (r ∷ []) t s e = absurd (none_some t e)
build_sound (Choice ∷ cs) n (r ∷ l ∷ st) t (k, (j, s, hl, p), hr, q) e =
    let x = build_sound cs n (choice l r ∷ st) t (j, s, (hl, rw p at hr), omega arith) e in
    (x.0 ∙ sym (two_codes (stack_codes st) (codes_of l) (codes_of r) (Choice ∷ []) cs), x.1)
build_sound (Star ∷ cs) n [] t s e = absurd (none_some t e)
build_sound (Star ∷ cs) n (u ∷ st) t s e = let x = build_sound cs n (star u ∷ st) t s e in (x.0 ∙ simp append_assoc, x.1)
build_sound (Plus ∷ cs) n [] t s e = absurd (none_some t e)
build_sound (Plus ∷ cs) n (u ∷ st) t s e = let x = build_sound cs n (plus u ∷ st) t s e in (x.0 ∙ simp append_assoc, x.1)
build_sound (Maybe ∷ cs) n [] t s e = absurd (none_some t e)
build_sound (Maybe ∷ cs) n (u ∷ st) t s e = let x = build_sound cs n (maybe u ∷ st) t s e in (x.0 ∙ simp append_assoc, x.1)

-- The machine answers t exactly where t is the tree of the codes
pub tree_is : (cs : List Code) (t : Tree) → (tree cs ≡ Some t) ↔ TreeOf cs t
tree_is cs t = (build_sound cs 1 [] t refl, λ h. sym (ap tree (append-nil (codes_of t) ∙ h.0)) ∙ build_codes t 1 h.1 [] [])

pub tree_one : (cs : List Code) (t u : Tree) → TreeOf cs t → TreeOf cs u → t ≡ u
tree_one cs t u h k = let x = (tree_is cs t).1 h in let y = (tree_is cs u).1 k in cc

pub tree_empty : (t : Tree) → TreeOf [] t → ⊥
tree_empty t h = none_some t ((tree_is [] t).1 h)
