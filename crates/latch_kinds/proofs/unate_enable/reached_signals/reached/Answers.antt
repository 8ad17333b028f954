-- All that is reached, in order.
use Rattle.std.proofs.Common.{ℕ, List, subst}
use Rattle.std.specs.List.Sorted.{IsPermutation}
use Rattle.latch_kinds.proofs.unate_enable.Walks.{reached_sorted}
use Rattle.latch_kinds.proofs.unate_enable.reached_signals.reached.Goals as goal

pub returns : goal.returns
returns c =
    let sorted = c.sort.new.self.items in
    let same = subst (λ (xs : List ℕ). IsPermutation xs sorted) c.in_ok-sorted.ensures.items c.sort.ensures.permutation in
    reached_sorted c.args.net.now c.args.from.0 c.in_ok-seen.seen c.as_slice.result.now sorted c.in_ok-seen.ensures c.as_slice.ensures same c.in_ok-sort.ensures.sorted
