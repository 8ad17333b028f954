-- The numbers of both lists, each once.
use Rattle.std.proofs.Common.{◌∙◌, ℕ, eqb, List, ◌++◌, ap}
use Rattle.std.proofs.lemmas.List.Filters.{dedup_is}
use Rattle.class_search.proofs.event_variables.Sorting.{once_sorted}
use Rattle.event_form.proofs.Asking.{union_is}
use Rattle.event_form.proofs.nodes.union_of.Goals as goal

pub returns : goal.returns
returns c =
    union_is c.args.left.now c.args.right.now c.extend_from_slice-2.new.self.items c.dedup.new.self.items
    (c.in_ok-extend_from_slice-2.ensures.items ∙ ap (λ (xs : List ℕ). xs ++ c.args.right.now) (c.in_ok-extend_from_slice.ensures.items ∙ ap (λ (xs : List ℕ). xs ++ c.args.left.now) c.new-numbers.ensures.items))
    (once_sorted c.extend_from_slice-2.new.self.items c.sort.new.self.items c.dedup.new.self.items c.sort.ensures.permutation c.in_ok-sort.ensures.sorted (dedup_is eqb c.sort.new.self.items c.dedup.new.self.items c.dedup.ensures.filtered))
