use Rattle.std.proofs.Common.{◌++◌, ◌∙◌, ap}
use Rattle.std.specs.List.{flat_map}
use Rattle.std.proofs.lemmas.List.{take_all}
use Rattle.cycle_sim.specs.pair_runs.replay_report.Report.{settling_line}
use Rattle.cycle_sim.proofs.pair_runs.replay_report.Lines.{lines_more}
use Rattle.cycle_sim.proofs.pair_runs.replay_report.report.put_settlings.Goals as goal

pub loop-settling-preserved : goal.loop-settling-preserved
loop-settling-preserved c =
    lines_more settling_line c.args.text.now.items c.loop-settling.text.items c.put_settling.new.text.items c.args.settlings.now c.loop-settling.settling-index c.settling-item.result c.loop-settling.invariant c.loop-settling-test.true c.settling-item.is c.in_ok-put_settling.ensures

pub returns : goal.returns
returns c = c.loop-settling.invariant ∙ ap (λ ss. c.args.text.now.items ++ flat_map settling_line ss) (take_all c.loop-settling.settling-index c.args.settlings.now c.loop-settling-test.false)
