use Rattle.swept_queries.specs.sweep.Grown.{IsGrown}
use Rattle.swept_queries.proofs.sweep.growth.grown.Given as goal

abbrev pub invariant-loop-n : goal.invariant-loop-n
invariant-loop-n l = IsGrown l.old l.growth l.n
