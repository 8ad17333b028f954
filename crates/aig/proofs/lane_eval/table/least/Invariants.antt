use Rattle.std.proofs.Common.{◌≡◌, ℕ, ◌*◌, ◌<◌, length}
use Rattle.aig.specs.circuit_theory.Query.{bits_of}
use Rattle.aig.specs.lane_eval.Renaming.{TellsApart}
use Rattle.aig.proofs.lane_eval.table.least.Given as goal

abbrev pub invariant-loop-number : goal.invariant-loop-number
invariant-loop-number l = record {
  inputs : length l.inputs ≡ length l.initial.inputs;
  blocks : length l.blocks ≡ length l.initial.blocks;
  none : (m : ℕ) → m < 512 * l.number → m < l.total → TellsApart l.table (bits_of m (length l.initial.inputs)) → ⊥;
}
