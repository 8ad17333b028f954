use Rattle.std.proofs.Common.{◌≡◌, ◌∙◌, ℕ, List, length, ap, subst, arith}
use Rattle.circuit_theory.proofs.Lists.{length-map}
use Rattle.aig.specs.declared.node.Node.{Node}
use Rattle.aig.proofs.Growth.{Grows-length}
use Rattle.tree_graph.specs.Making.{Makes}
use Rattle.tree_graph.specs.Rooted.{entries}
use Rattle.tree_graph.specs.Numbering.{with_inputs, entry_of}
use Rattle.tree_graph.proofs.Built.{tree_grown}
use Rattle.tree_graph.proofs.graphs.graph_of_trees.Goals as goal

pub returns-clause-graph : goal.returns-clause-graph
returns-clause-graph c = λ l r is_left is_right variables are same.
    let places : List (ℕ × ℕ) = entries c.args.places.now c.args.vars.now in
    let table : c.in_ok-table.table ≡ places = c.in_ok-table.ensures in
    let count : c.len.result ≡ length variables = c.len.ensures ∙ ap length table ∙ ap length same ∙ length-map entry_of variables in
    let between : List Node = c.make_tree.new.aig in
    let first : Makes places c.in_ok-aig.aig l between c.in_ok-l.l.0 = subst (λ (ps : List (ℕ × ℕ)). Makes ps c.in_ok-aig.aig l between c.in_ok-l.l.0) table (c.in_ok-l.ensures.made l is_left) in
    record {
      variables = variables;
      are_variables = are;
      places_are = same;
      between = between;
      left_made = subst (λ (g : List Node). Makes places g l between c.in_ok-l.l.0) (c.in_ok-aig.ensures.inputs ∙ ap with_inputs count) first;
      right_made = subst (λ (ps : List (ℕ × ℕ)). Makes ps between r c.make_tree-2.new.aig c.in_ok-r.r.0) table (c.in_ok-r.ensures.made r is_right);
    }

pub returns-clause-left : goal.returns-clause-left
returns-clause-left c =
    let made = c.in_ok-r.ensures.made c.requires.right.tree c.requires.right.is_tree in
    omega (arith, c.in_ok-l.ensures.within, Grows-length c.make_tree.new.aig c.make_tree-2.new.aig (tree_grown c.in_ok-table.table c.make_tree.new.aig c.make_tree-2.new.aig c.requires.right.tree c.in_ok-r.r.0 made))
