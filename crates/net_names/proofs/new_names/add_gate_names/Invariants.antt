use Rattle.std.proofs.Common.{◌≡◌, ◌++◌, ℕ, List, length}
use Rattle.net_names.proofs.new_names.add_gate_names.Given as goal

abbrev pub invariant-loop-gate : goal.invariant-loop-gate
invariant-loop-gate l = (more : List (List ℕ)) × (length more ≡ l.gate-index) × (l.names ≡ l.initial.names ++ more)
