-- A signal that is low, or not.
use Rattle.std.proofs.Common.{inl, arith}
use Rattle.signal_graph.proofs.inner_cone.sides.put_low.Goals as goal

pub returns : goal.returns
returns c = inl (c.in_ok-push.ensures.ok, omega (arith, c.number_at.ensures, c.if-number_at-least.false))
