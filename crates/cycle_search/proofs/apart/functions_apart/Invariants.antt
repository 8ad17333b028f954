use Rattle.std.proofs.Common.{◌≡◌, take}
use Rattle.cycle_search.specs.Apart.{AreApart}
use Rattle.cycle_search.proofs.apart.functions_apart.Given as goal

abbrev pub invariant-loop-i : goal.invariant-loop-i
invariant-loop-i l = record {
  same_aig : l.functions.aig ≡ l.initial.functions.aig;
  same_places : l.functions.places ≡ l.initial.functions.places;
  apart : AreApart l.left l.right l.initial.functions.aig l.initial.functions.places l.fn.cycle (take l.i l.pairs) (record { left = l.of_a; right = l.of_b });
}
