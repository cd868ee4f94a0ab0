-- The eight class names and their bytes, and which class stands at the front of a text.
use Rattle.std.specs.Prelude.{ℕ, ◌+◌, Bool, true, false, cond, List, [], ◌∷◌, ◌++◌, length, Some, None, codes, Option, ◌==◌, slice_index_or}
use Rattle.byte_notation.specs.declared.classes.ByteRange.{ByteRange}

unfoldable pub names : List (List ℕ)
names = codes "upper" ∷ codes "lower" ∷ codes "alpha" ∷ codes "digit" ∷ codes "alnum" ∷ codes "xdigit" ∷ codes "blank" ∷ codes "space" ∷ []

abbrev pub span : ℕ → ℕ → ByteRange
span l h = record { low = l; high = h }

-- the bytes of each class, in the order of the names
unfoldable pub ranges : List (List ByteRange)
ranges =
    (span 65 90 ∷ [])
    ∷ (span 97 122 ∷ [])
    ∷ (span 65 90 ∷ span 97 122 ∷ [])
    ∷ (span 48 57 ∷ [])
    ∷ (span 48 57 ∷ span 65 90 ∷ span 97 122 ∷ [])
    ∷ (span 48 57 ∷ span 65 70 ∷ span 97 102 ∷ [])
    ∷ (span 9 9 ∷ span 32 32 ∷ [])
    ∷ (span 9 13 ∷ span 32 32 ∷ [])
    ∷ []

-- the name and the bytes of the class with a number
abbrev pub name_of : ℕ → List ℕ
name_of i = slice_index_or names i []

abbrev pub ranges_of : ℕ → List ByteRange
ranges_of i = slice_index_or ranges i []

-- the text begins with the front
abbrev pub starts : List ℕ → List ℕ → Bool
starts [] ts = true
starts (f ∷ fs) [] = false
starts (f ∷ fs) (t ∷ ts) = cond (t == f) (starts fs ts) false

-- a class as it is written
abbrev pub spelled : List ℕ → List ℕ
spelled name = codes "[:" ++ name ++ codes ":]"

-- the first of the names that stands, as a class, at the front of the text; they are counted from i
abbrev pub class_from : ℕ → List (List ℕ) → List ℕ → Option ℕ
class_from i [] text = None
class_from i (n ∷ ns) text = cond (starts (spelled n) text) (Some i) (class_from (i + 1) ns text)

-- the number of the class at the front of the text
abbrev pub class_at : List ℕ → Option ℕ
class_at text = class_from 0 names text

-- the first of the names that stands at the front of the text, with :] behind it
abbrev pub named_from : ℕ → List (List ℕ) → List ℕ → Option ℕ
named_from i [] text = None
named_from i (n ∷ ns) text = cond (starts (n ++ codes ":]") text) (Some i) (named_from (i + 1) ns text)

abbrev pub class_named : List ℕ → Option ℕ
class_named text = named_from 0 names text

abbrev pub class_width : ℕ → ℕ
class_width i = length (name_of i) + 4

-- the place behind a class that may stand at p
abbrev pub passed : Option ℕ → ℕ → ℕ
passed (Some i) p = p + class_width i
passed None p = p
