-- Why a circuit that isn't taken as an assumption isn't compared under.
use Rattle.assume_queries.specs.declared.assume_sequences.assume_taken.error.TakeError.{TakeError}
use Rattle.assume_queries.specs.declared.assume_sequences.assume_taken.error.TakeError.TheVariants as untaken
use Rattle.plain_check.specs.declared.under_base.compare_base.error.CompareError.{CompareError}
use Rattle.plain_check.specs.declared.under_base.compare_base.error.CompareError.TheVariants as refused

abbrev pub refusal_of : TakeError → CompareError
refusal_of (untaken.Fault fault) = refused.Assume fault
refusal_of (untaken.Vacuous by) = refused.Vacuous by
refusal_of untaken.NoMemory = refused.NoMemory
