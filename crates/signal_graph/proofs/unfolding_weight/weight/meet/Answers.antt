-- A place that was met counts nothing more.
use Rattle.std.proofs.Common.{refl, inl}
use Rattle.signal_graph.proofs.inner_cone.circuit_theory.Lists.{of_at}
use Rattle.signal_graph.proofs.unfolding_weight.weight.meet.Goals as goal

pub returns-in-Some : goal.returns-in-Some
returns-in-Some c = (inl (of_at c.args.places.now c.in-Some.field-0 c.args.place c.in-Some.ensures.here, refl, refl), c.requires.low)
