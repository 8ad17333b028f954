-- Refusals of a comparison of pairs under an assumption, as those of the circuits.
use Rattle.assume_laws.specs.declared.assume_shape.shape.ShapeFault.TheVariants as fault
use Rattle.plain_check.specs.declared.asked_under.error.CompareUnderError.{CompareUnderError}
use Rattle.plain_check.specs.declared.asked_under.error.CompareUnderError.TheVariants as found
use Rattle.plain_check.specs.declared.under_base.compare_base.error.CompareError.{CompareError}
use Rattle.plain_check.specs.declared.under_base.compare_base.error.CompareError.TheVariants as refused

abbrev pub refusal_under : CompareUnderError → CompareError
refusal_under (found.TooLarge side) = refused.TooLarge side
refusal_under found.AssumptionTooLarge = refused.Assume fault.TooLarge
refusal_under found.NoMemory = refused.NoMemory
