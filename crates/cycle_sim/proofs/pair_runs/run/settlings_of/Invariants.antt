use Rattle.std.specs.Prelude.{◌≡◌, map, take}
use Rattle.cycle_sim.specs.declared.pair_runs.differences.Settling.{Settling}
use Rattle.cycle_sim.specs.pair_runs.Showing.{names_of}
use Rattle.cycle_sim.proofs.pair_runs.run.settlings_of.Given as goal

abbrev pub invariant-loop-j : goal.invariant-loop-j
invariant-loop-j l = (map (λ (s : Settling). s.pair) l.settlings ≡ names_of (take l.j l.pairs)) × (map (λ (s : Settling). s.first) l.settlings ≡ take l.j l.firsts)
