-- Document 01's table of refusals, "Order of the checks", with those that document 02 adds, and from 23 on those of calls that no document asks for: the
-- number of each kind. Assumes nothing.
use Rattle.std.specs.Prelude.{ℕ}
use Rattle.answer.specs.declared.Refusal.{Refusal}
use Rattle.answer.specs.declared.Refusal.TheVariants.{Truncated, CountOutOfRange, EntryOutOfRange, TrailingBytes, NotAssociative, Unreachable, NotLinked, Duplicate, UnknownLetter, WordLength, NotStrong, BufferTooShort, TooManyMatrices, NameOutOfRange, NameNeverKept, NoSuchState, LettersDiffer, TooManyPairs, LimitOutOfRange, NameNotFree, NameNotPresent, TooManyClasses, UnbalancedFormula}

-- the column "Number", by the column "Trade word"; 9 is no kind's number (document 02, Job 10), and those from 15 to 22 are of document 02
abbrev pub number_of : Refusal → ℕ
number_of Truncated = 1  -- cut short
number_of CountOutOfRange = 2  -- miscount
number_of EntryOutOfRange = 3  -- off the table
number_of TrailingBytes = 4  -- overrun
number_of NotAssociative = 5  -- not associative
number_of Unreachable = 6  -- unreached
number_of NotLinked = 7  -- unlinked
number_of Duplicate = 8  -- repeated
number_of UnknownLetter = 10  -- foreign letter
number_of WordLength = 11  -- word length
number_of NotStrong = 12  -- weak
number_of BufferTooShort = 13  -- short buffer
number_of TooManyMatrices = 14  -- too rich
number_of NameOutOfRange = 15  -- "New: 15, name above 7" (Job 1)
number_of NameNeverKept = 16  -- "16, return to a name never kept" (Job 1)
number_of NoSuchState = 17  -- "New: 17, no such state" (Job 5)
number_of LettersDiffer = 18  -- "New: 18, letter counts differ" (Job 7)
number_of TooManyPairs = 19  -- "then 19, more than 64 reached pairs" (Job 7)
number_of LimitOutOfRange = 20  -- "New: 20, limit above 64" (Job 9)
number_of NameNotFree = 21  -- "New: 21, entering under a name above 7 or taken" (Job 14)
number_of NameNotPresent = 22  -- "22, leaving a name not there" (Job 14)
number_of TooManyClasses = 23  -- more than 64 elements of `next` or `until`
number_of UnbalancedFormula = 24  -- operands that lack, more than eight rules at once, or not exactly one at the end
