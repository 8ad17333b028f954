-- Why a comparison under an assumption is refused, by why its parts are.
use Rattle.event_form.specs.declared.error.EventFormError.{EventFormError}
use Rattle.event_form.specs.declared.error.EventFormError.TheVariants as form_error
use Rattle.event_under.specs.event_under_form.event_under_verdicts.assume_queries.UnderError.{UnderError}
use Rattle.event_under.specs.event_under_form.event_under_verdicts.assume_queries.UnderError.TheVariants as asked_error
use Rattle.event_under.specs.declared.event_under_form.error.EventUnderError.{EventUnderError}
use Rattle.event_under.specs.declared.event_under_form.error.EventUnderError.TheVariants as under_error

abbrev pub refusal_of : EventFormError → EventUnderError
refusal_of form_error.TooManyEvents = under_error.TooManyEvents
refusal_of (form_error.TooLarge side) = under_error.TooLarge side
refusal_of form_error.NoMemory = under_error.NoMemory

abbrev pub refusal_under : UnderError → EventUnderError
refusal_under asked_error.TooLarge = under_error.AssumptionTooLarge
refusal_under asked_error.NoMemory = under_error.NoMemory
