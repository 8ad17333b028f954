use Rattle.std.proofs.Common.{◌≤◌, ℕ, List, length}
use Rattle.signal_graph.specs.unfolding_weight.Weight.{AreMet, Stay, AreVisited, AreThere}
use Rattle.signal_graph.proofs.unfolding_weight.weight.meet_all.Given as goal

abbrev pub invariant-loop-signal : goal.invariant-loop-signal
invariant-loop-signal l = record {
  met : (outputs : List ℕ) → AreVisited l.net outputs l.reads l.shift → AreMet l.net outputs l.initial.places l.total → AreMet l.net outputs l.places l.sum;
  low : l.sum ≤ l.cap;
  there : AreThere l.reads l.signal-index l.shift l.places;
  stay : Stay l.initial.places l.places;
  longer : length l.initial.places ≤ length l.places;
}
