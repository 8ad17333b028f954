use Rattle.std.proofs.Common.{take}
use Rattle.cycle_sim.specs.pair_runs.Feeds.{fed}
use Rattle.cycle_sim.proofs.pair_runs.ShownPairs.{IsAt}
use Rattle.cycle_sim.proofs.pair_runs.run.replay_rows.Given as goal

abbrev pub invariant-loop-row : goal.invariant-loop-row
invariant-loop-row l = IsAt (fed l.initial.left) (fed l.initial.right) l.pairs (take l.row-index l.rows) l.left l.right l.initial.found l.found l.firsts
