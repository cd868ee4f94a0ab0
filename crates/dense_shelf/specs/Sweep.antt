-- What a sweep has done on its way: only steps from or to the places m are gone, and they are counted.
use Rattle.std.specs.Prelude.{◌≡◌, ℕ, ◌+◌, Bool, ◌⊎◌, None}
use Rattle.memory.specs.Steps.{Map, without, size}

-- from map f to map g, of n places
pub record Swept (n : ℕ) (m : ℕ → Bool) (f g : Map) (gone : ℕ) : Type 0 where
  pub same : without g m ≡ without f m
  pub count : gone + size n g ≡ size n f
  pub fewer : (q d : ℕ) → (g q d ≡ f q d) ⊎ (g q d ≡ None)

-- the map's step from q at class d, if any, is neither from nor to the places m
abbrev pub Clean : (ℕ → Bool) → Map → ℕ → ℕ → Type 0
Clean m f q d = f q d ≡ without f m q d
