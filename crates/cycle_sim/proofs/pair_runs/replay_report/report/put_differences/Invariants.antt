use Rattle.std.specs.Prelude.{◌≡◌, ◌++◌, take}
use Rattle.std.specs.List.{flat_map}
use Rattle.cycle_sim.specs.pair_runs.replay_report.Report.{difference_line}
use Rattle.cycle_sim.proofs.pair_runs.replay_report.report.put_differences.Given as goal

abbrev pub invariant-loop-difference : goal.invariant-loop-difference
invariant-loop-difference l = l.text.items ≡ l.initial.text.items ++ flat_map difference_line (take l.difference-index l.differences)
