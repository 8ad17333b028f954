use Rattle.std.proofs.Common.{◌≡◌, ◌<◌, ℕ, slice_get, Some}
use Rattle.std.specs.List.{Contains}
use Rattle.event_nodes.specs.Adds.{Adds}
use Rattle.event_nodes.specs.Visited.{IsWeighed}
use Rattle.event_classes.proofs.event_functions.counting.count_all.Given as goal

abbrev pub invariant-loop-number : goal.invariant-loop-number
invariant-loop-number l = record {
  adds : Adds (Contains l.visits.places) l.initial.total.places l.total.places;
  done : (i : ℕ) (q : ℕ × ℕ) → i < l.number → slice_get l.visits.places i ≡ Some q → Contains l.total.places q;
  weighed : IsWeighed l.net l.total;
}
