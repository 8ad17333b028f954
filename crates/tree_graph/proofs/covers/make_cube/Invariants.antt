use Rattle.std.proofs.Common.{ℕ, ◌*◌, ◌<◌, ◌≤◌, List, length, map, drop}
use Rattle.aig.specs.declared.node.Node.{Node}
use Rattle.aig.specs.Graph.{Grows}
use Rattle.tree_graph.specs.declared.covers.TheConstants.{MOST_NODES}
use Rattle.aig.specs.Making.{MakesCube}
use Rattle.tree_graph.proofs.covers.make_cube.Given as goal

abbrev pub invariant-loop-i : goal.invariant-loop-i
invariant-loop-i l = record {
  grows : Grows l.initial.aig l.aig;
  few : length l.aig ≤ MOST_NODES;
  within : l.lit.0 < 2 * length l.aig;
  rest : (h : List Node) (x : ℕ) → MakesCube l.aig l.lit.0 (drop l.i l.places) (drop l.i (map (λ f. f.0) l.fanins)) h x → MakesCube l.initial.aig 1 l.places (map (λ f. f.0) l.fanins) h x;
}
