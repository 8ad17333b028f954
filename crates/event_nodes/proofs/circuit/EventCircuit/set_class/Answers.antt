-- The circuit keeps one class for each latch.
use Rattle.std.proofs.Common.{arith}
use Rattle.std.proofs.lemmas.List.{length-set}
use Rattle.event_nodes.proofs.circuit.EventCircuit.set_class.Goals as goal

pub invariant_of-self : goal.invariant_of-self
invariant_of-self c = (
  record {
    marks = c.self.invariant.0.marks;
    each_order = c.self.invariant.0.each_order;
    order_once = c.self.invariant.0.order_once;
    each_class = omega (arith, c.self.invariant.0.each_class, length-set c.self.inside.classes.items c.args.j c.args.class);
  },
  c.self.invariant.1,
)
