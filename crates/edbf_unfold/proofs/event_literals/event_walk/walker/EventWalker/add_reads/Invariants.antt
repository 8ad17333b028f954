use Rattle.std.proofs.Common.{◌+◌, ◌≤◌, length, take}
use Rattle.std.specs.List.{All}
use Rattle.event_nodes.specs.Adds.{Adds}
use Rattle.edbf_unfold.specs.event_literals.event_walk.Walk.{IsReadAt, IsReadIn}
use Rattle.edbf_unfold.proofs.event_literals.event_walk.walker.EventWalker.add_reads.Given as goal

abbrev pub invariant-loop-fanin : goal.invariant-loop-fanin
invariant-loop-fanin l = record {
  adds : Adds (IsReadAt l.self.circuit.net l.put l.own l.free l.fanins) l.initial.table l.table;
  all : All (IsReadIn l.self.circuit.net l.put l.own l.free l.table) (take l.fanin-index l.fanins);
  few : length l.table ≤ length l.initial.table + l.fanin-index;
}
