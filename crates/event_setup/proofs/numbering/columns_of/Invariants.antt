use Rattle.std.proofs.Common.{◌≡◌, ◌++◌, take}
use Rattle.event_setup.proofs.numbering.columns_of.Given as goal

abbrev pub invariant-loop-name : goal.invariant-loop-name
invariant-loop-name l = l.columns ≡ l.shared ++ take l.name-index l.exposed
