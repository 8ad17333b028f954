use Rattle.std.proofs.Common.{◌≡◌, ◌+◌, length, take}
use Rattle.std.specs.List.{AllZip}
use Rattle.cbf_unfold.specs.Found.{IsFound}
use Rattle.cbf_unfold.proofs.unfolder.Unfolder.put_block.Given as goal

abbrev pub invariant-loop-k : goal.invariant-loop-k
invariant-loop-k l = record {
  same : l.places ≡ l.initial.places;
  count : length l.all.items ≡ length l.initial.all.items + l.k;
  found : AllZip (IsFound l.self l.initial.places) (take (length l.all.items) l.signals) l.all.items;
}
