use Rattle.flat_net.specs.View.{circuit_of}
use Rattle.cbf_unfold.proofs.unfold_places.Candidates.{AreFirst}
use Rattle.cbf_unfold.proofs.unfold_places.visitors.input_numbers.Given as goal

abbrev pub invariant-loop-number : goal.invariant-loop-number
invariant-loop-number l = AreFirst (circuit_of l.net) l.order l.memo l.number l.numbers.items
