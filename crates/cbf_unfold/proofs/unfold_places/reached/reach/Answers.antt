-- The places are distinct, so that in order each stands strictly before the next.
use Rattle.cbf_unfold.proofs.unfold_places.Lists.{not_both}
use Rattle.cbf_unfold.proofs.unfold_places.Order.{sorted_walk}
use Rattle.cbf_unfold.proofs.unfold_places.reached.reach.Goals as goal

pub returns-clause-reach : goal.returns-clause-reach
returns-clause-reach c = sorted_walk _ _ _ _ c.in_ok-table.table _ _ c.in_ok-places.ensures c.keeps.ensures c.in_ok-table.ensures.unmet c.sort.ensures.permutation c.in_ok-sort.ensures.sorted

pub returns-clause-over : goal.returns-clause-over
returns-clause-over c = λ e. absurd (not_both e)
