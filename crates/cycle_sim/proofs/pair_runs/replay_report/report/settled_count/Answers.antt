use Rattle.std.proofs.Common.{◌∙◌, sym, arith}
use Rattle.cycle_sim.proofs.pair_runs.replay_report.Counts.{one_more, none_more}
use Rattle.cycle_sim.proofs.pair_runs.replay_report.report.settled_count.Goals as goal
use Rattle.cycle_sim.proofs.pair_runs.replay_report.report.settled_count.Goals.{then-is_some, else-is_some}

pub loop-settling-preserved : goal.loop-settling-preserved
loop-settling-preserved c =
    let settlings = c.as_slice-settling-items.result.now in
    let i = c.loop-settling.settling-index in
    let count = c.loop-settling.count in
    let before = c.loop-settling.invariant in
    elim c.if-is_some.branch [
      | then-is_some w ↦ (
        w.count-is ∙ one_more settlings i count c.settling-item.result c.loop-settling-test.true c.settling-item.is (sym c.is_some.ensures ∙ w.if-is_some.true) before.0,
        omega (arith, w.count-is, before.1),
      )
      | else-is_some w ↦ (
        w.count-is ∙ none_more settlings i count c.settling-item.result c.loop-settling-test.true c.settling-item.is (sym c.is_some.ensures ∙ w.if-is_some.false) before.0,
        omega (arith, w.count-is, before.1),
      )
    ]
