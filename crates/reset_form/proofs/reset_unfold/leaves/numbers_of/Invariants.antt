use Rattle.std.proofs.Common.{◌≡◌, take, slice_get, Some}
use Rattle.std.specs.List.{AllZip}
use Rattle.reset_form.proofs.reset_unfold.leaves.numbers_of.Given as goal

abbrev pub invariant-loop-leaf : goal.invariant-loop-leaf
invariant-loop-leaf l = record {
  same : l.table ≡ l.initial.table;
  numbers : AllZip (λ v x. slice_get l.initial.table v ≡ Some (x.1, x.0)) l.numbers.items (take l.leaf-index l.leaves);
}
