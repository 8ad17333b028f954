-- Why circuits whose pairs can't be compared under an assumption aren't compared.
use Rattle.assume_laws.specs.declared.assume_shape.shape.ShapeFault.TheVariants as fault
use Rattle.event_setup.specs.event_meaning.event_meaning_under.CompareError.{CompareError}
use Rattle.event_setup.specs.event_meaning.event_meaning_under.CompareError.TheVariants as refused
use Rattle.event_under.specs.declared.event_under_form.error.EventUnderError.{EventUnderError}
use Rattle.event_under.specs.declared.event_under_form.error.EventUnderError.TheVariants as under_error

abbrev pub refusal_under : EventUnderError → CompareError
refusal_under under_error.TooManyEvents = refused.TooManyEvents
refusal_under (under_error.TooLarge side) = refused.TooLarge side
refusal_under under_error.AssumptionTooLarge = refused.Assume fault.TooLarge
refusal_under under_error.NoMemory = refused.NoMemory
