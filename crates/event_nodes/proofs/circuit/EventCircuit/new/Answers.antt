-- The lists are those that are passed.
use Rattle.std.proofs.Common.{ℕ, List, sym, subst}
use Rattle.event_nodes.specs.View.{IsEventCircuit}
use Rattle.event_nodes.proofs.circuit.EventCircuit.new.Goals as goal

pub invariant_of-result : goal.invariant_of-result
invariant_of-result c = (
  subst (λ (classes : List ℕ). IsEventCircuit (record { net = c.args.net; enabled = c.args.enabled; order = c.args.order; classes = classes })) (sym c.into_vec.ensures) c.requires.circuit,
  c.requires.depths,
)
