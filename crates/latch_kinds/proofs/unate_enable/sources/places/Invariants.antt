use Rattle.std.proofs.Common.{◌≡◌, ◌++◌, map, take}
use Rattle.flat_net.specs.Cut.{latch_at}
use Rattle.latch_kinds.specs.unate_enable.Cones.{input_at}
use Rattle.latch_kinds.proofs.unate_enable.sources.places.Given as goal

abbrev pub invariant-loop-i : goal.invariant-loop-i
invariant-loop-i l = l.places ≡ map (λ i. (input_at l.net i).signal.0) (take l.i-index l.i-items)

abbrev pub invariant-loop-j : goal.invariant-loop-j
invariant-loop-j l = l.places ≡ map (λ i. (input_at l.net i).signal.0) l.cone.inputs ++ map (λ k. (latch_at l.net k).out.0) (take l.j-index l.j-items)
