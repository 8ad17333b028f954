use Rattle.std.proofs.Common.{◌≡◌, length}
use Rattle.swept_queries.specs.Roots.{AreMade}
use Rattle.swept_queries.proofs.roots.known_after.Given as goal

abbrev pub invariant-loop-i : goal.invariant-loop-i
invariant-loop-i l = record { made : AreMade l.asked l.lits l.made.items; each : length l.made.items ≡ l.i }
