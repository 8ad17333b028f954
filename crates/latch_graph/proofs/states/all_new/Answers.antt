use Rattle.std.proofs.Common.{◌≡◌, List, Some, slice_get, subst}
use Rattle.latch_graph.specs.declared.states.State.{State}
use Rattle.latch_graph.specs.declared.states.State.TheVariants.{New}
use Rattle.latch_graph.proofs.Filled.{same_filled}
use Rattle.latch_graph.proofs.states.all_new.Goals as goal

pub returns-clause-new : goal.returns-clause-new
returns-clause-new c = λ i x h. same_filled c.args.count New i x (subst (λ (z : List State). slice_get z i ≡ Some x) (c.in_ok-vec.ensures.items_if_clones_equal (λ y e. e)) h)
