use Rattle.std.proofs.Common.{◌≡◌, ◌≤◌, take}
use Rattle.std.specs.List.{sum_by}
use Rattle.flat_net.specs.Weights.{weight_at}
use Rattle.latch_kinds.proofs.unate_enable.reads.are_light.Given as goal

abbrev pub invariant-loop-s : goal.invariant-loop-s
invariant-loop-s l = record {
  counted : l.total ≡ sum_by (weight_at l.net) (take l.s-index l.signals);
  small : l.total ≤ 2000000;
}
