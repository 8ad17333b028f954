use Rattle.cycle_sim.specs.pair_runs.Showing.{PutsSome}
use Rattle.cycle_sim.proofs.pair_runs.shown.put_shown.Given as goal

abbrev pub invariant-loop-j : goal.invariant-loop-j
invariant-loop-j l = PutsSome l.left l.right l.pairs l.cycle l.j l.initial.found l.found l.initial.firsts l.firsts
