use Rattle.std.proofs.Common.{◌≡◌}
use Rattle.net_names.specs.Fronts.{with_gates}
use Rattle.net_names.proofs.copying.add_gates.Given as goal

abbrev pub invariant-loop-k : goal.invariant-loop-k
invariant-loop-k l = l.maker.net ≡ with_gates l.original l.k
