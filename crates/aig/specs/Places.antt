-- Where a node is looked for.
use Rattle.std.specs.Prelude.{ℕ}
use Rattle.base_tables.specs.unique_table.Places.{mixed}
use Rattle.aig.specs.declared.node.Node.{Node}
use Rattle.aig.specs.declared.node.Node.TheVariants.{Constant, Input, And}
use Rattle.aig.specs.Ways.{and_place}

-- the place of a step of the search for a node
abbrev pub node_place : Node → ℕ → ℕ
node_place Constant step = step
node_place (Input v) step = mixed (mixed 0 v) step
node_place (And l r) step = and_place l.0 r.0 step
