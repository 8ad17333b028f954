use Rattle.std.proofs.Common.{◌≡◌, drop}
use Rattle.std.specs.List.{list_any}
use Rattle.std.specs.Prelude.{◌==◌}
use Rattle.flat_net.proofs.net.gates_read.Given as goal

abbrev pub invariant-loop-gate : goal.invariant-loop-gate
invariant-loop-gate l = list_any (λ g. list_any (λ f. f.0 == l.signal.0) g.fanins) l.gates ≡ list_any (λ g. list_any (λ f. f.0 == l.signal.0) g.fanins) (drop l.gate-index l.gates)
