use Rattle.std.proofs.Common.{◌≡◌, take}
use Rattle.cbf_unfold.specs.unfold_places.Visitors.{with_bits}
use Rattle.cbf_unfold.proofs.unfold_places.visitors.with_bits.Given as goal

abbrev pub invariant-loop-number : goal.invariant-loop-number
invariant-loop-number l = l.found.items ≡ with_bits l.words l.mask (take l.number-index l.numbers)
