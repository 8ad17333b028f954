use Rattle.std.proofs.Common.{◌≡◌, ◌≤◌, ◌-◌, length, take}
use Rattle.std.specs.List.{AllZip}
use Rattle.cbf_unfold.specs.Found.{IsFound}
use Rattle.cbf_unfold.proofs.unfolder.Unfolder.functions.Given as goal

abbrev pub invariant-loop-alloc : goal.invariant-loop-alloc
invariant-loop-alloc l = record {
  same : l.places ≡ l.initial.places;
  within : length l.all.items ≤ length l.signals;
  found : AllZip (IsFound l.self l.initial.places) (take (length l.all.items) l.signals) l.all.items;
}

abbrev pub decreases-loop-alloc : goal.decreases-loop-alloc
decreases-loop-alloc l = length l.signals - length l.all.items
