use Rattle.std.proofs.Common.{◌≡◌, ◌++◌, map, take, if◌then◌else◌}
use Rattle.flat_net.specs.Cut.{latch_at, as_input, as_output}
use Rattle.flat_net.proofs.net.Net.ports_behind.Given as goal

abbrev pub invariant-loop-j : goal.invariant-loop-j
invariant-loop-j l = l.made.items ≡ l.ports ++ map (λ j. if l.takes_over then as_output (latch_at l.self j) else as_input (latch_at l.self j)) (take l.j-index l.exposed)
