use Rattle.std.proofs.Common.{◌≡◌, map, take}
use Rattle.signal_graph.specs.inner_cone.latch_cone.Kinds.{is_enabled}
use Rattle.signal_graph.proofs.inner_cone.latch_cone.kinds.enabled_among.Given as goal

abbrev pub invariant-loop-kind : goal.invariant-loop-kind
invariant-loop-kind l = l.bits.items ≡ map is_enabled (take l.kind-index l.kinds)
