use Rattle.std.proofs.Common.{◌≡◌, ◌≤◌, ℕ, length, take}
use Rattle.std.specs.List.{All, Contains}
use Rattle.event_nodes.specs.flat_net.Signal.{Signal}
use Rattle.event_nodes.specs.Adds.{Adds}
use Rattle.event_classes.proofs.event_functions.event_reach.reached.put_all.Given as goal

abbrev pub invariant-loop-latch : goal.invariant-loop-latch
invariant-loop-latch l = record {
  adds : Adds (λ (q : ℕ × ℕ). (f : Signal) × Contains l.latches f × ((l.node, f.0) ≡ q)) l.initial.table l.table;
  all : All (λ (f : Signal). Contains l.table (l.node, f.0)) (take l.latch-index l.latches);
  few : length l.table ≤ l.cap;
}
