use Rattle.std.proofs.Common.{map, take}
use Rattle.elaborate.specs.State.{Adds, pair_between}
use Rattle.elaborate.proofs.walked.Walked.add_pairs.Given as goal

abbrev pub invariant-loop-pair : goal.invariant-loop-pair
invariant-loop-pair l = Adds (λ models. map (pair_between l.inputs l.outer l.inner) (take l.pair-index l.pairs)) l.initial.self l.self
