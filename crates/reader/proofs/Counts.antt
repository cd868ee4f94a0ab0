-- The atoms of a row of items, counted by a filter.
use Rattle.std.proofs.Common.{◌≡◌, ℕ, zero, suc, Bool, true, false, cond, List, [], ◌∷◌, Option, refl}
use Rattle.std.specs.List.{slice_get, filter}
use Rattle.std.specs.Option.{option_map}
use Rattle.items.specs.declared.Item.{Item}
use Rattle.items.specs.declared.Placed.{Placed}
use Rattle.reader.specs.Rows.{by_item, surplus}

abbrev pub is_atom : Item → Bool
is_atom Item.Atom = true
is_atom (Item.Sign s) = false

abbrev place_at : ℕ → List Placed → Option ℕ
place_at n xs = option_map (λ x. x.place) (slice_get xs n)

abbrev pub atoms_in : List Placed → List Placed
atoms_in xs = filter (λ x. is_atom x.item) xs

by_its_item : (y : Item) (n : ℕ) (x : Placed) (xs : List Placed) → ((m : ℕ) → surplus m xs ≡ place_at m (atoms_in xs))
    → by_item y n x.place (λ m. surplus m xs) ≡ place_at n (cond (is_atom y) (x ∷ atoms_in xs) (atoms_in xs))
by_its_item Item.Atom zero x xs same = refl
by_its_item Item.Atom (suc n) x xs same = same n
by_its_item (Item.Sign s) n x xs same = same n

pub surplus_nth : (n : ℕ) (xs : List Placed) → surplus n xs ≡ place_at n (atoms_in xs)
surplus_nth n [] = refl
surplus_nth n (x ∷ xs) = by_its_item x.item n x xs (λ m. surplus_nth m xs)
