-- A text without the blanks around it.
use Rattle.std.specs.Prelude.{ℕ, List, drop}
use Rattle.std.specs.List.{prefix_len}
use Rattle.script.specs.Words.{blank, trimmed}

-- the text without the blanks at its front
abbrev pub fronted : List ℕ → List ℕ
fronted xs = drop (prefix_len blank xs) xs

abbrev pub stripped : List ℕ → List ℕ
stripped text = fronted (trimmed text)
