-- One node more is numbered.
use Rattle.std.proofs.Common.{◌∙◌, length, ap, arith}
use Rattle.event_nodes.specs.Nodes.{EventGraphView}
use Rattle.event_nodes.proofs.event_variables.ranked_nodes.Zeros.{zeros_next}
use Rattle.event_nodes.proofs.event_variables.ranked_nodes.nodes.put_zeros.Goals as goal

pub number-requires-clause-node : goal.number-requires-clause-node
number-requires-clause-node c = omega (arith, ap length c.loop-n.invariant.children, c.loop-n-test.true, c.nodes-count.ensures)

pub number-requires-clause-places : goal.number-requires-clause-places
number-requires-clause-places c = omega (arith, c.loop-n.invariant.zeros.each, c.loop-n-test.true, c.nodes-count.ensures, c.requires.room)

pub loop-n-preserved : goal.loop-n-preserved
loop-n-preserved c = record {
  children = ap (λ (w : EventGraphView). w.children) c.in_ok-number.ensures.same ∙ c.loop-n.invariant.children;
  zeros = zeros_next c.loop-n.n c.loop-n.events.places c.number.new.self.places c.loop-n.invariant.zeros c.in_ok-number.ensures.grows.places.0 c.in_ok-number.ensures.grows.places.1 c.in_ok-number.ensures.places c.in_ok-number.field-0 c.in_ok-number.ensures.here;
}
