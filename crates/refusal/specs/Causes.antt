-- The number and the layer of each cause of a refusal.
use Rattle.std.specs.Prelude.{ℕ}
use Rattle.refusal.specs.declared.Cause.{Cause}
use Rattle.refusal.specs.declared.Cause.TheVariants.{TextTooLong, NoItem, BadEscape, UnclosedBracket, ReversedRange, BadNumber, TooManyAtoms, TooDeep, MissingOperand, UnmatchedClosing, UnclosedGroup, RecordTooLong, FromPastEnd, LimitTooLarge}
use Rattle.refusal.specs.declared.Layer.{Layer}
use Rattle.refusal.specs.declared.Layer.TheVariants.{Items, Atoms, Structure, Call}

abbrev pub number_of : Cause → ℕ
number_of TextTooLong = 3
number_of NoItem = 4
number_of BadEscape = 5
number_of UnclosedBracket = 6
number_of ReversedRange = 7
number_of BadNumber = 8
number_of TooManyAtoms = 9
number_of TooDeep = 10
number_of MissingOperand = 11
number_of UnmatchedClosing = 12
number_of UnclosedGroup = 13
number_of RecordTooLong = 14
number_of FromPastEnd = 15
number_of LimitTooLarge = 16

abbrev pub number_of_layer : Layer → ℕ
number_of_layer Items = 2
number_of_layer Atoms = 3
number_of_layer Structure = 4
number_of_layer Call = 5

-- items are layer 2, the count of atoms 3, the pattern's structure 4, search calls 5
abbrev pub layer_of : Cause → ℕ
layer_of TextTooLong = 2
layer_of NoItem = 2
layer_of BadEscape = 2
layer_of UnclosedBracket = 2
layer_of ReversedRange = 2
layer_of BadNumber = 2
layer_of TooManyAtoms = 3
layer_of TooDeep = 4
layer_of MissingOperand = 4
layer_of UnmatchedClosing = 4
layer_of UnclosedGroup = 4
layer_of RecordTooLong = 5
layer_of FromPastEnd = 5
layer_of LimitTooLarge = 5
