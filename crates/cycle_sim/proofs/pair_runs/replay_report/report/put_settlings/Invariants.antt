use Rattle.std.specs.Prelude.{◌≡◌, ◌++◌, take}
use Rattle.std.specs.List.{flat_map}
use Rattle.cycle_sim.specs.pair_runs.replay_report.Report.{settling_line}
use Rattle.cycle_sim.proofs.pair_runs.replay_report.report.put_settlings.Given as goal

abbrev pub invariant-loop-settling : goal.invariant-loop-settling
invariant-loop-settling l = l.text.items ≡ l.initial.text.items ++ flat_map settling_line (take l.settling-index l.settlings)
