use Rattle.std.proofs.Common.{◌≡◌, ◌-◌, take, slice_get, Some}
use Rattle.std.specs.List.{AllZip}
use Rattle.cbf_unfold.proofs.unfold_places.variables.numbers_of.Given as goal

abbrev pub invariant-loop-input : goal.invariant-loop-input
invariant-loop-input l = record {
  same : l.table ≡ l.initial.table;
  numbers : AllZip (λ v x. slice_get l.initial.table v ≡ Some (x.1, l.last - x.0)) l.numbers.items (take l.input-index l.inputs);
}
