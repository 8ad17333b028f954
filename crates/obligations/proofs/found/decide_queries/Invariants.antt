use Rattle.std.proofs.Common.{◌≡◌, ℕ, ◌<◌, slice_get, Some}
use Rattle.obligations.specs.outcome.Query.{Query}
use Rattle.obligations.specs.outcome.Queries.{IsSame}
use Rattle.obligations.proofs.found.decide_queries.Given as goal

abbrev pub invariant-loop-i : goal.invariant-loop-i
invariant-loop-i l = (k : ℕ) (q : Query) → k < l.i → slice_get l.queries k ≡ Some q → IsSame l.aig q
