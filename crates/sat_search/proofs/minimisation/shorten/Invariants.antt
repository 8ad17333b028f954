use Rattle.std.proofs.Common.{◌≤◌, length}
use Rattle.sat_search.specs.Uniques.{IsUnique}
use Rattle.sat_search.proofs.minimisation.shorten.Given as goal

abbrev pub invariant-places : goal.invariant-places
invariant-places l = record {
  within : l.left ≤ length l.places.items;
  unique : IsUnique l.store l.trail l.decision l.resolver l.chain l.last;
}

abbrev pub decreases-places : goal.decreases-places
decreases-places l = l.left
