-- What leads back, in order.
use Rattle.std.proofs.Common.{ℕ, List, subst}
use Rattle.std.specs.List.Sorted.{IsPermutation}
use Rattle.std.proofs.lemmas.List.Sorted.{IsNonDecreasingBy-from_sort}
use Rattle.signal_graph.proofs.inner_cone.Inner.{inside_sorted}
use Rattle.signal_graph.proofs.inner_cone.walk.inside.Goals as goal

pub returns : goal.returns
returns c =
    let sorted = c.sort.new.self.items in
    let order = IsNonDecreasingBy-from_sort (λ x. x) sorted c.in_ok-sort.ensures.sorted in
    let same = subst (λ (xs : List ℕ). IsPermutation xs sorted) c.in_ok-sorted.ensures.items c.sort.ensures.permutation in
    inside_sorted c.args.net.now c.args.ranks.now c.requires.ranked c.args.from.0 c.args.own.0 c.number_at-least.result c.number_at-least.ensures c.in_ok-seen.seen c.as_slice.result.now sorted c.in_ok-seen.ensures c.as_slice.ensures same order
