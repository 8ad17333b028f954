use Rattle.std.specs.Prelude.{◌≡◌, ◌+◌, ◌≤◌, drop}
use Rattle.signal_induct.specs.Tied.{ties_from}
use Rattle.signal_induct.proofs.ties.tie_count.Given as goal

abbrev pub invariant-loop-place : goal.invariant-loop-place
invariant-loop-place l = record { counted : l.count + ties_from l.place (drop l.place l.anchors) ≡ ties_from 0 l.anchors; few : l.count ≤ l.place }
