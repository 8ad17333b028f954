-- Why nothing is found.
use Rattle.reset_form.specs.declared.reset_functions.error.ResetError.{ResetError}
use Rattle.reset_form.specs.declared.reset_functions.error.ResetError.TheVariants as reset
use Rattle.sec_setup.specs.declared.error.SetupError.{SetupError}
use Rattle.sec_setup.specs.declared.error.SetupError.TheVariants as unset
use Rattle.cycle_search.specs.declared.found.SearchError.{SearchError}
use Rattle.cycle_search.specs.declared.found.SearchError.TheVariants as refused

-- the refusal of a circuit that is too large
abbrev pub refusal_of : ResetError → SearchError
refusal_of (reset.TooLarge side) = refused.TooLarge side
refusal_of reset.NoMemory = refused.NoMemory

-- the refusal of interfaces that don't match, or want of memory
abbrev pub mismatch_of : SetupError → SearchError
mismatch_of (unset.Interface name) = refused.Interface name
mismatch_of other = refused.NoMemory
