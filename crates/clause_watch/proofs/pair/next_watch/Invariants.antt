use Rattle.std.proofs.Common.{◌≢◌, ◌<◌, ℕ, get_or, length}
use Rattle.clause_base.specs.Literals.{Literal, negation}
use Rattle.clause_watch.specs.Trails.{TrueBefore}
use Rattle.clause_watch.proofs.pair.next_watch.Given as goal

abbrev pub invariant-loop-literal : goal.invariant-loop-literal
invariant-loop-literal l = (k : ℕ) (d : Literal) → k < l.literal-index → (get_or l.clause k d).variable ≢ l.other.variable → TrueBefore l.trail.entries (length l.trail.entries) (negation (get_or l.clause k d))
