use Rattle.std.proofs.Common.{◌≡◌, ◌<◌, ℕ}
use Rattle.std.specs.List.{count_by}
use Rattle.flatten.specs.connectivity.Steps.{is_open, IsBackBy}
use Rattle.flatten.proofs.connectivity.sources.ends.Given as goal

abbrev pub invariant-loop-at : goal.invariant-loop-at
invariant-loop-at l = record {
  steps : (k : ℕ) × (0 < k) × IsBackBy l.froms k l.at.items;
  count : l.open ≡ count_by (is_open l.froms) l.at.items;
}

abbrev pub decreases-loop-at : goal.decreases-loop-at
decreases-loop-at l = l.open
