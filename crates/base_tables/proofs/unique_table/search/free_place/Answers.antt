-- The place that is free, and what stands before it.
use Rattle.std.proofs.Common.{arith}
use Rattle.base_tables.proofs.unique_table.search.free_place.Goals as goal

pub returns-then-slots-place-eq0 : goal.returns-then-slots-place-eq0
returns-then-slots-place-eq0 g c = record {
  step = c.loop-step.step;
  early = omega (arith, c.loop-step-test.true, c.min-step-end.ensures);
  inside = omega (arith, c.loop-step-test.true, c.min-step-end.ensures);
  is = c.place_in-place.ensures.is;
  within = c.place_in-place.ensures.within;
  free = c.if-slots-place-eq0.true;
  taken = c.loop-step.invariant;
}
