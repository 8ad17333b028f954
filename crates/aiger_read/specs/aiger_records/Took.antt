-- What taking a record says.
use Rattle.std.specs.Prelude.{◌≡◌, Option, Some, None, Result, Ok, Err}
use Rattle.aiger_read.specs.declared.aiger_records.error.AigerKind.{AigerKind}
use Rattle.aiger_read.specs.declared.aiger_records.error.Stop.{Stop}
use Rattle.aiger_read.specs.declared.aiger_records.error.Stop.TheVariants as stop

-- the fault ends the reading, or want of memory
abbrev pub Stops : Option AigerKind → Stop → Type 0
Stops fault stop.NoMemory = Unit {0}
Stops fault (stop.Fault kind) = fault ≡ Some kind

-- a record without a fault was taken, or the reading ends
abbrev pub Took : Option AigerKind → Type 0 → Result (Unit {0}) Stop → Type 0
Took fault After (Ok u) = (fault ≡ None) × After
Took fault After (Err s) = Stops fault s
