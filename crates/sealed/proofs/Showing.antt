-- Tables that show the positions of a pattern.
use Rattle.std.proofs.Common.{◌≡◌, ℕ, ◌+◌, ◌<◌, ◌≤◌, Bool, true, false, cond, eqb, leb, List, [], ◌∷◌, ◌++◌, length, get_or, take, drop, set, replicate, reverse, Some, None, sym, refl, ap, ◌∙◌, ⊎_elim, arith, get_or-set_other, get_or-set_same}
use Rattle.std.proofs.lemmas.List.{at_drop_more, at_drop_all, take_all, length-map, length-reverse}
use Rattle.std.proofs.lemmas.List.Sums.{sum_by-append, count_by-le-length}
use Rattle.std.proofs.lemmas.Bool.{and_parts, leb-true, cases_eq, eq-eqb, ne_eqb, cond-true, cond-false}
use Rattle.sets.specs.Members.{none}
use Rattle.sets.specs.Positions.{holds, PositionSet}
use Rattle.theory.specs.Positions.{Positions, positions}
use Rattle.pattern.specs.declared.Code.{Code}
use Rattle.pattern.specs.Codes.{tree}
use Rattle.theory.specs.Seal.{seal, or_none, sealed}
use Rattle.theory.specs.Seal as theory
use Rattle.theory.proofs.Seal.{sealed_is}
use Rattle.sealed.specs.declared.part.Part.{Part}
use Rattle.sealed.specs.declared.assembly.Assembly.{Assembly}
use Rattle.sealed.specs.declared.tables.Tables.{Tables}
use Rattle.sealed.specs.Parts.{part_of}
use Rattle.sealed.specs.Shown.{Shows, whole}
use Rattle.sealed.specs.Assembling.{stack, rest, Taken, is_atom, atom_codes}
use Rattle.sealed.specs.Plans.{fits}
use Rattle.alphabet.specs.Sets.{blank}
use Rattle.sealed.specs.Tables.{entry, following, preceding}
use Rattle.sealed.proofs.Linking.{entry_none}

same_both : (b : Bool) → cond b false false ≡ false
same_both true = refl
same_both false = refl

pub shows_none : (s : PositionSet) → holds s ≡ none → ((p q : ℕ) → entry (replicate 64 s) p q ≡ following (positions None) p q) × ((q p : ℕ) → entry (replicate 64 s) q p ≡ preceding (positions None) q p)
shows_none s e = (
  (λ p q. ap (λ f. f p q) (entry_none s e) ∙ sym (same_both (eqb p 0))),
  (λ q p. ap (λ f. f q p) (entry_none s e) ∙ sym (same_both (eqb q 0))),
)

-- a table whose row 0 is put in last
pub row_zero : (rows : List PositionSet) (s : PositionSet) (p q : ℕ) → 0 < length rows → entry (set rows 0 s) p q ≡ cond (eqb p 0) (holds s q) (entry rows p q)
row_zero rows s p q l =
    ⊎_elim
    (λ (e : p ≡ 0). ap (λ k. entry (set rows 0 s) k q) e ∙ ap (λ r. holds r q) (get_or-set_same rows 0 s blank l) ∙ sym (cond-true (eqb p 0) (holds s q) (entry rows p q) (eq-eqb p 0 e)))
    (λ (d : p ≡ 0 → ⊥). ap (λ r. holds r q) (get_or-set_other rows 0 p s blank d) ∙ sym (cond-false (eqb p 0) (holds s q) (entry rows p q) (ne_eqb p 0 d)))
    (cases_eq p 0)

-- a pattern that is one part
pub shows_whole : (x : Part) (next prior : List PositionSet) → 0 < length next → 0 < length prior → ((p q : ℕ) → entry prior q p ≡ entry next p q)
    → Shows (whole (part_of x) (entry next)) (record { nullable = x.nullable; next = set next 0 x.first; prior = set prior 0 x.last })
shows_whole x next prior l m h = (
  refl,
  (λ p q. row_zero next x.first p q l),
  (λ q p. row_zero prior x.last q p m ∙ ap (cond (eqb q 0) (holds x.last p)) (h p q)),
)

-- one part is left
pub one_left : (xs ys : List Part) (d : Part) (n : ℕ) (f : ℕ → ℕ → Bool) → length xs ≡ 1 → ys ≡ xs → or_none (seal [] n (stack xs) f) ≡ whole (part_of (get_or ys 0 d)) f
one_left [] ys d n f e q = absurd (omega arith)
one_left (x ∷ []) ys d n f e q = ap (λ zs. whole (part_of (get_or zs 0 d)) f) (sym q)
one_left (x ∷ y ∷ zs) ys d n f e q = absurd (omega arith)

-- another number of parts is no pattern
not_one : (st : List theory.Part) (n : ℕ) (f : ℕ → ℕ → Bool) → (length st ≡ 1 → ⊥) → or_none (seal [] n st f) ≡ positions None
not_one [] n f d = refl
not_one (x ∷ []) n f d = absurd (d refl)
not_one (x ∷ y ∷ st) n f d = refl

pub none_left : (xs : List Part) (n : ℕ) (f : ℕ → ℕ → Bool) → (length xs ≡ 1 → ⊥) → or_none (seal [] n (stack xs) f) ≡ positions None
none_left xs n f d = not_one (stack xs) n f (λ e. d (sym (length-map (reverse xs) part_of ∙ length-reverse xs) ∙ e))

-- tables that show what is left show the pattern of the codes
pub shows_codes : (codes : List Code) (P : Positions) (t : Tables) → P ≡ sealed codes → Shows P t → Shows (positions (tree codes)) t
shows_codes codes P t e h = rw (e ∙ sealed_is codes) at h

pub atoms_append : (cs ds : List Code) → atom_codes (cs ++ ds) ≡ atom_codes cs + atom_codes ds
atoms_append cs ds = sum_by-append (λ c. cond (is_atom c) 1 0) cs ds

pub atoms_cons : (code : Code) (cs : List Code) → atom_codes (code ∷ cs) ≡ atom_codes (code ∷ []) + atom_codes cs
atoms_cons code cs = atoms_append (code ∷ []) cs

pub weight_low : (code : Code) → atom_codes (code ∷ []) ≤ 1
weight_low code = count_by-le-length is_atom (code ∷ [])

-- one code more
pub atoms_more : (codes : List Code) (i n : ℕ) (d : Code) → i < length codes → n + atom_codes (drop i codes) ≡ atom_codes codes → n + atom_codes (get_or codes i d ∷ []) + atom_codes (drop (i + 1) codes) ≡ atom_codes codes
atoms_more codes i n d l h = let e = at_drop_more atom_codes codes i d l in let f = atoms_append (get_or codes i d ∷ []) (drop (i + 1) codes) in omega arith

pub rest_more : (codes : List Code) (i : ℕ) (d : Code) (a b : Assembly) → i < length codes → Taken (get_or codes i d) a b (Some tt) → or_none (rest a (drop i codes)) ≡ sealed codes → or_none (rest b (drop (i + 1) codes)) ≡ sealed codes
rest_more codes i d a b l h k = sym (at_drop_more (λ cs. or_none (rest a cs)) codes i d l ∙ ap or_none (h (drop (i + 1) codes))) ∙ k

pub rest_none : (codes : List Code) (i : ℕ) (d : Code) (a b : Assembly) → i < length codes → Taken (get_or codes i d) a b None → or_none (rest a (drop i codes)) ≡ sealed codes → positions None ≡ sealed codes
rest_none codes i d a b l h k = sym (at_drop_more (λ cs. or_none (rest a cs)) codes i d l ∙ ap or_none (h (drop (i + 1) codes))) ∙ k

pub rest_all : (codes : List Code) (i : ℕ) (a : Assembly) → length codes ≤ i → or_none (rest a (drop i codes)) ≡ sealed codes → or_none (rest a []) ≡ sealed codes
rest_all codes i a l k = sym (at_drop_all (λ cs. or_none (rest a cs)) codes i l) ∙ k

pub no_tables : (codes : List Code) (i : ℕ) (a : Assembly) → length codes ≤ i → or_none (rest a (drop i codes)) ≡ sealed codes → (length a.parts.items ≡ 1 → ⊥) → positions (tree codes) ≡ positions None
no_tables codes i a l k d = sym (sealed_is codes) ∙ sym (rest_all codes i a l k) ∙ none_left a.parts.items (a.atoms + 1) (entry a.next) d

-- the codes are kept whole
pub copied_all : (own codes : List Code) (i : ℕ) → i ≡ length codes → take i own ≡ take i codes → take (length codes) own ≡ codes
copied_all own codes i e h = ap (λ n. take n own) (sym e) ∙ h ∙ take_all i codes (omega arith)

pub shows_at : (codes ds : List Code) (t : Tables) → ds ≡ codes → Shows (positions (tree codes)) t → Shows (positions (tree ds)) t
shows_at codes ds t e h = rw e h

pub short : (codes : List Code) → fits codes ≡ true → length codes ≤ 1023
short codes e = leb-true (length codes) 1023 (and_parts (leb (length codes) 1023) (leb (atom_codes codes) 63) e).0
