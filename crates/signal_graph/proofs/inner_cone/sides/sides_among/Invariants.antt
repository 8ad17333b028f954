use Rattle.std.proofs.Common.{◌≡◌, ◌<◌, ℕ, Some, Contains, get_or, slice_get}
use Rattle.signal_graph.specs.inner_cone.Inner.{IsLow}
use Rattle.signal_graph.specs.inner_cone.Sides.{AreSomeSides}
use Rattle.signal_graph.proofs.inner_cone.SideSignals.{IsDone}
use Rattle.signal_graph.proofs.inner_cone.sides.sides_among.Given as goal

abbrev pub invariant-loop-signal : goal.invariant-loop-signal
invariant-loop-signal l = record {
  some : AreSomeSides l.net l.ranks (get_or l.ranks l.own.0 0) l.fn.from.0 l.own.0 l.sides;
  root : IsLow l.ranks (get_or l.ranks l.own.0 0) l.fn.from.0 → Contains l.sides (record { 0 = l.fn.from.0 });
  done : (i s : ℕ) → i < l.signal-index → slice_get l.signals i ≡ Some s → IsDone l.net l.ranks l.own.0 s l.sides;
}
