use Rattle.std.proofs.Common.{◌≡◌, ◌≤◌}
use Rattle.flat_net.specs.Weights.{weight_at}
use Rattle.latch_kinds.proofs.unate_enable.Light.{sum_to}
use Rattle.latch_kinds.proofs.unate_enable.reads.are_cones_light.Given as goal

abbrev pub invariant-loop-s : goal.invariant-loop-s
invariant-loop-s l = record { counted : l.total ≡ sum_to (weight_at l.net) l.s; small : l.total ≤ 2000000 }
