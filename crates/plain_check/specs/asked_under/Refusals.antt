-- Refusals of an assumption, as those of a comparison under it.
use Rattle.assume_queries.specs.declared.map.UnderError.{UnderError}
use Rattle.assume_queries.specs.declared.map.UnderError.TheVariants as under
use Rattle.plain_check.specs.declared.asked_under.error.CompareUnderError.{CompareUnderError}
use Rattle.plain_check.specs.declared.asked_under.error.CompareUnderError.TheVariants as refused

abbrev pub refusal_under : UnderError → CompareUnderError
refusal_under under.TooLarge = refused.AssumptionTooLarge
refusal_under under.NoMemory = refused.NoMemory
