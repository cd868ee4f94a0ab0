-- What a refusal says when it is printed.
use Rattle.std.specs.Prelude.{ℕ, List, ◌++◌, codes}
use Rattle.std.specs.Fmt.{decimal}
use Rattle.refusal.specs.declared.Cause.{Cause}
use Rattle.refusal.specs.declared.Cause.TheVariants.{TextTooLong, NoItem, BadEscape, UnclosedBracket, ReversedRange, BadNumber, TooManyAtoms, TooDeep, MissingOperand, UnmatchedClosing, UnclosedGroup, RecordTooLong, FromPastEnd, LimitTooLarge}
use Rattle.refusal.specs.declared.Refusal.{Refusal}
use Rattle.refusal.specs.Causes.{number_of, layer_of}

abbrev pub words_of : Cause → List ℕ
words_of TextTooLong = codes "the text has over 512 bytes"
words_of NoItem = codes "nothing begins with this byte"
words_of BadEscape = codes "a backslash does not go before this"
words_of UnclosedBracket = codes "this bracket is not closed"
words_of ReversedRange = codes "this range ends below its start"
words_of BadNumber = codes "a number is missing here, has over five digits or is too large"
words_of TooManyAtoms = codes "there are over 63 atoms"
words_of TooDeep = codes "parentheses nest over 32 deep"
words_of MissingOperand = codes "something to match is missing here"
words_of UnmatchedClosing = codes "this parenthesis was not opened"
words_of UnclosedGroup = codes "a parenthesis is not closed at the end"
words_of RecordTooLong = codes "the record has over 1,048,576 symbols"
words_of FromPastEnd = codes "the search begins behind the record's end"
words_of LimitTooLarge = codes "the limit is above 64"

abbrev pub refusal_text : Refusal → List ℕ
refusal_text r = codes "refused " ++ decimal (number_of r.cause) ++ codes " layer " ++ decimal (layer_of r.cause) ++ codes " place " ++ decimal r.place
