use Rattle.std.proofs.Common.{◌≡◌, ℕ, length, slice_get, Some}
use Rattle.flat_net.specs.declared.parts.Port.{Port}
use Rattle.cycle_sim.specs.declared.pair_runs.differences.OutputPair.{OutputPair}
use Rattle.job_circuit.specs.replay.cut_sides.Pairs.{IsOutputAt}
use Rattle.job_circuit.proofs.replay.cut_sides.pairs.output_pairs.Given as goal

abbrev pub invariant-loop-place : goal.invariant-loop-place
invariant-loop-place l =
    (length l.pairs.items ≡ l.place)
    × ((i : ℕ) (port : Port) (p : OutputPair) → slice_get l.a.outputs i ≡ Some port → slice_get l.pairs.items i ≡ Some p → IsOutputAt l.b i port p)
