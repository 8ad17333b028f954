use Rattle.std.proofs.Common.{◌≡◌, ℕ, Some, length, slice_get}
use Rattle.flat_net.specs.declared.parts.Port.{Port}
use Rattle.restart.specs.Behind.{IsColumnOf}
use Rattle.restart.proofs.three_run.columns_of.Given as goal

abbrev pub invariant-loop-port : goal.invariant-loop-port
invariant-loop-port l =
    (length l.columns.items ≡ l.port-index)
    × ((i k : ℕ) (port : Port) → slice_get l.net.inputs i ≡ Some port → slice_get l.columns.items i ≡ Some k → IsColumnOf l.names port.name k)
