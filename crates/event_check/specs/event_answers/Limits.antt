-- What is told where the limit was met before the pairs, and what is refused.
use Rattle.std.specs.Prelude.{◌≡◌, Result, Ok, Err}
use Rattle.obligations.specs.declared.outcome.verdict.LimitAt.{LimitAt}
use Rattle.obligations.specs.declared.outcome.verdict.LimitAt.TheVariants as limit_at
use Rattle.event_classes.specs.declared.error.EventError.{EventError}
use Rattle.event_classes.specs.declared.error.EventError.TheVariants as event_error
use Rattle.event_setup.specs.declared.error.RecoveryError.{RecoveryError}
use Rattle.event_setup.specs.declared.error.RecoveryError.TheVariants as unknown
use Rattle.plain_check.specs.declared.under_base.compare_base.error.CompareError.{CompareError}
use Rattle.plain_check.specs.declared.under_base.compare_base.error.CompareError.TheVariants as refused
use Rattle.event_setup.specs.event_meaning.event_names.event_fits.Fitting.{class_limit}
use Rattle.event_setup.specs.event_meaning.event_names.Nameable.{IsLatchIn, IsOtherIn}
use Rattle.event_setup.specs.declared.event_meaning.event_names.names.Names.{Names}

-- what is told where it isn't known which latches are enabled
abbrev pub TellsUnknown : RecoveryError → Result LimitAt CompareError → Type 0
TellsUnknown (unknown.Limit side name proof) r = r ≡ Ok (limit_at.Recover side name proof)
TellsUnknown (unknown.TooLarge side) r = r ≡ Err (refused.TooLarge side)
TellsUnknown unknown.NoMemory r = r ≡ Err refused.NoMemory

-- the latches at the limit have names
abbrev pub CanTell : Names → EventError → Type 0
CanTell n (event_error.Limit latch other proof) = IsLatchIn n latch × IsOtherIn n other
CanTell n other = Unit {0}

-- what is told where the classes aren't known; want of memory may come of the names
abbrev pub TellsLimit : Names → EventError → Result LimitAt CompareError → Type 0
TellsLimit n (event_error.Limit latch other proof) (Ok at) = at ≡ class_limit n.left n.right latch other proof
TellsLimit n (event_error.Limit latch other proof) (Err e) = e ≡ refused.NoMemory
TellsLimit n event_error.TooManyEvents r = r ≡ Err refused.TooManyEvents
TellsLimit n (event_error.TooLarge side) r = r ≡ Err (refused.TooLarge side)
TellsLimit n event_error.NoMemory r = r ≡ Err refused.NoMemory
