-- Both lists sorted, without what stands twice.
use Rattle.std.proofs.Common.{◌∙◌, ℕ, List, subst, eqb}
use Rattle.std.specs.List.Sorted.{IsPermutation}
use Rattle.std.proofs.lemmas.List.Filters.{dedup_is}
use Rattle.block_refine.proofs.latch_blocks.Reached.{merged_is}
use Rattle.block_refine.proofs.latch_blocks.support.merged.Goals as goal

pub returns : goal.returns
returns c =
    merged_is c.args.left.items c.args.right.now c.from_vec.result c.sort.new.self.items (subst (λ (l : List ℕ). IsPermutation l c.sort.new.self.items) c.in_ok-extend_from_slice.ensures.items c.sort.ensures.permutation) c.in_ok-sort.ensures.sorted
    (c.from_vec.ensures ∙ dedup_is eqb c.sort.new.self.items c.dedup.new.self.items c.dedup.ensures.filtered)
