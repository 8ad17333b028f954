use Rattle.std.specs.Prelude.{◌≡◌, ◌≤◌, take}
use Rattle.cycle_sim.specs.pair_runs.replay_report.Report.{settled_count}
use Rattle.cycle_sim.proofs.pair_runs.replay_report.report.settled_count.Given as goal

abbrev pub invariant-loop-settling : goal.invariant-loop-settling
invariant-loop-settling l = (l.count ≡ settled_count (take l.settling-index l.settling-items)) × (l.count ≤ l.settling-index)
