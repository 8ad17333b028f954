use Rattle.std.proofs.Common.{◌≡◌, Bool, false, List, Some, slice_get, subst}
use Rattle.latch_graph.proofs.Filled.{same_filled}
use Rattle.latch_graph.proofs.rounds.none_passed.Goals as goal

pub returns-clause-none : goal.returns-clause-none
returns-clause-none c = λ i x h. same_filled c.args.count false i x (subst (λ (z : List Bool). slice_get z i ≡ Some x) (c.in_ok-vec.ensures.items_if_clones_equal (λ y e. e)) h)
