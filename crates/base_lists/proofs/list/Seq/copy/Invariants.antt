use Rattle.std.specs.Prelude.{◌≡◌, take}
use Rattle.base_lists.proofs.list.Seq.copy.Given as goal

abbrev pub invariant-loop-item : goal.invariant-loop-item
invariant-loop-item g l = l.made ≡ take l.item-index l.item-items
