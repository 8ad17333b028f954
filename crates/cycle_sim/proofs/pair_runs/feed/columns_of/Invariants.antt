use Rattle.std.proofs.Common.{◌≡◌, ℕ, length, slice_get, Some, Option}
use Rattle.flat_net.specs.declared.parts.Port.{Port}
use Rattle.cycle_sim.specs.pair_runs.Feeding.{IsColumn}
use Rattle.cycle_sim.proofs.pair_runs.feed.columns_of.Given as goal

abbrev pub invariant-loop-port : goal.invariant-loop-port
invariant-loop-port l =
    (length l.columns.items ≡ l.port-index)
    × ((i : ℕ) (port : Port) (column : Option ℕ) → slice_get l.net.inputs i ≡ Some port → slice_get l.columns.items i ≡ Some column → IsColumn l.header port.name column)
