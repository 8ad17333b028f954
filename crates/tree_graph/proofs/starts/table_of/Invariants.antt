use Rattle.std.proofs.Common.{◌≡◌, ◌++◌, drop}
use Rattle.tree_graph.specs.Rooted.{entries}
use Rattle.tree_graph.proofs.starts.table_of.Given as goal

abbrev pub invariant-loop-i : goal.invariant-loop-i
invariant-loop-i l = entries l.places l.vars ≡ l.table ++ entries l.places (drop l.i l.vars)
