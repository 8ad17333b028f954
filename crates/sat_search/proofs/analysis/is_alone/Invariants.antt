use Rattle.std.proofs.Common.{◌≤◌}
use Rattle.clause_watch.specs.Trails.{OthersFalse}
use Rattle.sat_search.proofs.analysis.is_alone.Given as goal

abbrev pub invariant-places : goal.invariant-places
invariant-places l = record {
  within : l.place ≤ l.last.place;
  alone : OthersFalse l.trail.entries l.place l.resolver l.last.literal;
}

abbrev pub decreases-places : goal.decreases-places
decreases-places l = l.place
