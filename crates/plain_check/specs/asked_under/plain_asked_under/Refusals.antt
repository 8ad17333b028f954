-- Refusals of the circuits, as those of a comparison under an assumption.
use Rattle.plain_asked.specs.declared.error.PlainError.{PlainError}
use Rattle.plain_asked.specs.declared.error.PlainError.TheVariants as plain
use Rattle.plain_check.specs.declared.asked_under.error.CompareUnderError.{CompareUnderError}
use Rattle.plain_check.specs.declared.asked_under.error.CompareUnderError.TheVariants as refused

abbrev pub refusal_of : PlainError → CompareUnderError
refusal_of (plain.TooLarge side) = refused.TooLarge side
refusal_of plain.NoMemory = refused.NoMemory
