use Rattle.std.proofs.Common.{refl, inl}
use Rattle.cycle_search.proofs.search.agreed.Goals as goal

pub returns-then-reaches_depths : goal.returns-then-reaches_depths
returns-then-reaches_depths c = inl (refl, c.reaches_depths.ensures.0 c.if-reaches_depths.true)
