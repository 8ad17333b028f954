use Rattle.std.proofs.Common.{◌≡◌, ℕ, ◌<◌, get_or, slice_get, Some}
use Rattle.std.specs.List.{Contains}
use Rattle.swept_queries.specs.sweep.aig.Node.TheVariants.{Input}
use Rattle.swept_queries.proofs.query.has_all.Given as goal

abbrev pub invariant-loop-i : goal.invariant-loop-i
invariant-loop-i l = (j : ℕ) → j < l.i → (v : ℕ) → slice_get l.aig (get_or l.nodes j 0) ≡ Some (Input v) → Contains l.vars v
