use Rattle.std.proofs.Common.{ℕ, ◌*◌, ◌<◌, ◌≤◌, List, length, map, drop}
use Rattle.aig.specs.declared.node.Node.{Node}
use Rattle.aig.specs.Graph.{Grows}
use Rattle.tree_graph.specs.declared.covers.TheConstants.{MOST_NODES}
use Rattle.aig.specs.Making.{MakesRows}
use Rattle.tree_graph.proofs.covers.make_cover.Given as goal

abbrev pub invariant-loop-i : goal.invariant-loop-i
invariant-loop-i l = record {
  grows : Grows l.initial.aig l.aig;
  few : length l.aig ≤ MOST_NODES;
  within : l.lit.0 < 2 * length l.aig;
  rest : (h : List Node) (x : ℕ) → MakesRows l.aig l.lit.0 (drop l.i l.rows) (map (λ f. f.0) l.fanins) h x → MakesRows l.initial.aig 0 l.rows (map (λ f. f.0) l.fanins) h x;
}
