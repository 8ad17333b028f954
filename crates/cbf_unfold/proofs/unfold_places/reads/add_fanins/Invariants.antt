use Rattle.std.proofs.Common.{◌≡◌, ◌+◌, ◌≤◌, length, take}
use Rattle.std.specs.List.{All, Contains}
use Rattle.flat_net.specs.declared.signals.Signal.{Signal}
use Rattle.aig.specs.Adds.{Adds}
use Rattle.cbf_unfold.specs.unfold_places.Reach.{IsThere}
use Rattle.cbf_unfold.proofs.unfold_places.reads.add_fanins.Given as goal

abbrev pub invariant-loop-fanin : goal.invariant-loop-fanin
invariant-loop-fanin l = record {
  adds : Adds (λ q. (f : Signal) × Contains l.fanins f × ((l.cycle, f.0) ≡ q)) l.initial.table l.table;
  all : All (λ f. IsThere l.memo l.table (l.cycle, f.0)) (take l.fanin-index l.fanins);
  few : length l.table ≤ length l.initial.table + l.fanin-index;
}
