use Rattle.std.proofs.Common.{◌≡◌, ◌+◌, ◌≤◌, length}
use Rattle.net_names.specs.Fronts.{front}
use Rattle.net_names.proofs.copying.add_latches.Given as goal

abbrev pub invariant-loop-latch : goal.invariant-loop-latch
invariant-loop-latch l = record { made : l.maker.net ≡ front l.original (length l.original.inputs) l.latch-index 0 (length l.original.inputs + l.latch-index); few : l.latch-index ≤ length l.original.latches }
