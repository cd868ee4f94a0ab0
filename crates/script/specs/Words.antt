-- The words of a line.
use Rattle.std.specs.Prelude.{ℕ, Bool, ◌||◌, List, length, take, ◌-◌, ◌==◌}
use Rattle.std.specs.List.{before_first, after_first, suffix_len}
use Rattle.std.specs.Str.{bytes_eq}

-- what stands before the first b, or everything
abbrev pub up_to : ℕ → List ℕ → List ℕ
up_to b xs = before_first (λ x. x == b) xs

-- what stands behind the first b; nothing where there is none
abbrev pub past : ℕ → List ℕ → List ℕ
past b xs = after_first (λ x. x == b) xs

-- two words are the same
abbrev pub same : List ℕ → List ℕ → Bool
same xs ys = bytes_eq xs ys

-- a space, a tab or a carriage return
abbrev pub blank : ℕ → Bool
blank b = b == 32 || (b == 9 || b == 13)

-- the text without the blanks at its end
abbrev pub trimmed : List ℕ → List ℕ
trimmed xs = take (length xs - suffix_len blank xs) xs
