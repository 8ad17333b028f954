use Rattle.std.specs.Prelude.{◌≡◌, fold, take}
use Rattle.cycle_sim.specs.declared.pair_runs.differences.Settling.{Settling}
use Rattle.cycle_sim.specs.pair_runs.replay_report.Report.{earlier_of}
use Rattle.cycle_sim.proofs.pair_runs.replay_report.report.first_settled.Given as goal

abbrev pub invariant-loop-settling : goal.invariant-loop-settling
invariant-loop-settling l = l.least ≡ fold (λ t (s : Settling). earlier_of t s.first) l.cycles (take l.settling-index l.settling-items)
