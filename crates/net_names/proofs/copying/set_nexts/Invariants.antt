use Rattle.std.proofs.Common.{◌≡◌, ◌≤◌, ◌++◌, true, map, length, take, drop, replicate}
use Rattle.net_names.specs.Fronts.{begun}
use Rattle.net_names.proofs.copying.set_nexts.Given as goal

abbrev pub invariant-loop-latch : goal.invariant-loop-latch
invariant-loop-latch l = record {
  net : l.maker.net ≡ record l.initial.maker.net { latches = take l.latch-index l.original.latches ++ map begun (drop l.latch-index l.original.latches) };
  set : l.maker.set ≡ replicate l.latch-index true ++ drop l.latch-index l.initial.maker.set;
  few : l.latch-index ≤ length l.original.latches;
}
