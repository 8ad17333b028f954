-- Refusals of what the taking of an assumption calls, as its own.
use Rattle.cbf_unfold.specs.declared.unfold_places.error.UnfoldError.{UnfoldError}
use Rattle.cbf_unfold.specs.declared.unfold_places.error.UnfoldError.TheVariants as unfold_error
use Rattle.assume_laws.specs.declared.assume_shape.shape.ShapeFault.TheVariants as fault
use Rattle.assume_queries.specs.declared.assume_sequences.assume_taken.error.TakeError.{TakeError}
use Rattle.assume_queries.specs.declared.assume_sequences.assume_taken.error.TakeError.TheVariants as refused

-- a function that is too large is a fault of the assumption
abbrev pub refusal_of : UnfoldError → TakeError
refusal_of unfold_error.TooLarge = refused.Fault fault.TooLarge
refusal_of unfold_error.NoMemory = refused.NoMemory
