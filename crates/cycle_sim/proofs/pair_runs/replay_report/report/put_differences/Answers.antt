-- The lines of the differences so far, and one more.
use Rattle.std.proofs.Common.{◌++◌, ◌∙◌, ap}
use Rattle.std.specs.List.{flat_map}
use Rattle.std.proofs.lemmas.List.{take_all}
use Rattle.cycle_sim.specs.pair_runs.replay_report.Report.{difference_line}
use Rattle.cycle_sim.proofs.pair_runs.replay_report.Lines.{lines_more}
use Rattle.cycle_sim.proofs.pair_runs.replay_report.report.put_differences.Goals as goal

pub loop-difference-preserved : goal.loop-difference-preserved
loop-difference-preserved c =
    lines_more difference_line c.args.text.now.items c.loop-difference.text.items c.put_difference.new.text.items c.args.differences.now c.loop-difference.difference-index c.difference-item.result c.loop-difference.invariant c.loop-difference-test.true c.difference-item.is c.in_ok-put_difference.ensures

pub returns : goal.returns
returns c = c.loop-difference.invariant ∙ ap (λ ds. c.args.text.now.items ++ flat_map difference_line ds) (take_all c.loop-difference.difference-index c.args.differences.now c.loop-difference-test.false)
