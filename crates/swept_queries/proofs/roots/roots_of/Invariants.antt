use Rattle.std.proofs.Common.{◌≡◌, take}
use Rattle.swept_queries.specs.Roots.{roots_for}
use Rattle.swept_queries.proofs.roots.roots_of.Given as goal

abbrev pub invariant-loop-i : goal.invariant-loop-i
invariant-loop-i l = l.roots.items ≡ roots_for (take l.i l.asked)
