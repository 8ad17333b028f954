use Rattle.std.proofs.Common.{◌≡◌, ℕ, zero, suc, List, replicate, slice_get, Some, sym, subst}
use Rattle.std.proofs.lemmas.Option.{none-some, same_Some}
use Rattle.latch_graph.specs.declared.minimal_cut.marks.Direction.TheVariants.{Back}
use Rattle.latch_graph.specs.declared.minimal_cut.marks.Mark.{Mark}
use Rattle.latch_graph.specs.declared.minimal_cut.marks.Mark.TheVariants.{Met}
use Rattle.latch_graph.proofs.minimal_cut.marks.none_met.Goals as goal

-- all marks are the same
same_filled : (n : ℕ) (y : Mark) (i : ℕ) (x : Mark) → slice_get (replicate n y) i ≡ Some x → x ≡ y
same_filled zero y i x h = absurd (none-some x h)
same_filled (suc n) y zero x h = sym (same_Some y x h)
same_filled (suc n) y (suc i) x h = same_filled n y i x h

pub returns-clause-none : goal.returns-clause-none
returns-clause-none c = λ i x h. same_filled c.args.count (Met Back 0) i x (subst (λ (z : List Mark). slice_get z i ≡ Some x) (c.in_ok-vec.ensures.items_if_clones_equal (λ y e. e)) h)
