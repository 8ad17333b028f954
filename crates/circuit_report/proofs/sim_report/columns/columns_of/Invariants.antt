use Rattle.std.proofs.Common.{◌≡◌, ℕ, length, slice_get, Some}
use Rattle.flat_net.specs.declared.parts.Port.{Port}
use Rattle.circuit_report.proofs.sim_report.columns.columns_of.Given as goal

abbrev pub invariant-loop-port : goal.invariant-loop-port
invariant-loop-port l =
    (length l.columns.items ≡ l.port-index)
    × ((i k : ℕ) (port : Port) → slice_get l.net.inputs i ≡ Some port → slice_get l.columns.items i ≡ Some k → slice_get l.names k ≡ Some port.name)
