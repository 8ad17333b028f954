-- Refusals of the circuits, as those of a comparison under an assumption.
use Rattle.reset_form.specs.declared.reset_functions.error.ResetError.{ResetError}
use Rattle.reset_form.specs.declared.reset_functions.error.ResetError.TheVariants as reset
use Rattle.plain_check.specs.declared.asked_under.error.CompareUnderError.{CompareUnderError}
use Rattle.plain_check.specs.declared.asked_under.error.CompareUnderError.TheVariants as refused

abbrev pub refusal_of : ResetError → CompareUnderError
refusal_of (reset.TooLarge side) = refused.TooLarge side
refusal_of reset.NoMemory = refused.NoMemory
