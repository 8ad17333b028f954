-- Above both lists.
use Rattle.std.proofs.Common.{◌<◌, ◌^◌, ℕ, List, sym, subst, arith}
use Rattle.std.specs.List.{All}
use Rattle.std.proofs.lemmas.List.Elements.{All-weaker}
use Rattle.block_refine.proofs.block_graph.numbering.first_block.Goals as goal

pub above-left-requires-clause-small : goal.above-left-requires-clause-small
above-left-requires-clause-small c = subst (All (λ i. i < 2 ^ 31)) (sym c.as_slice.ensures) c.requires.left

pub above-requires-clause-small : goal.above-requires-clause-small
above-requires-clause-small c = subst (All (λ i. i < 2 ^ 31)) (sym c.as_slice-2.ensures) c.requires.right

pub returns-clause-left : goal.returns-clause-left
returns-clause-left c =
    All-weaker (λ (i : ℕ). i < c.above-left.result) (λ (i : ℕ). i < c.above.result) (λ i l. omega (arith, l, c.above.ensures.least)) c.args.orders.now.left
    (subst (λ (l : List ℕ). All (λ i. i < c.above-left.result) l) c.as_slice.ensures c.above-left.ensures.above)

pub returns-clause-right : goal.returns-clause-right
returns-clause-right c = subst (λ (l : List ℕ). All (λ i. i < c.above.result) l) c.as_slice-2.ensures c.above.ensures.above
