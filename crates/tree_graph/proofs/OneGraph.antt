-- Two trees have one graph.
use Rattle.std.proofs.Common.{◌≡◌, ℕ, List, length, map, sym, ap, subst, ◌∙◌}
use Rattle.circuit_theory.specs.Tree.{Tree}
use Rattle.circuit_theory.specs.Query.{Variable, ShiftBefore}
use Rattle.base_tables.specs.Table.{AreDistinct}
use Rattle.aig.specs.declared.node.Node.{Node}
use Rattle.tree_graph.specs.Making.{Makes}
use Rattle.tree_graph.specs.Numbering.{with_inputs, entry_of, IsGraphOf, HaveOneGraph}
use Rattle.aig.specs.Builds.{Builds}
use Rattle.tree_graph.proofs.One.{tree_one}
use Rattle.tree_graph.proofs.Built.{stays, tree_grown, tree_built}
use Rattle.tree_graph.proofs.Ordered.{ordered_one, shift_asym, entries_once}
use Rattle.tree_graph.proofs.Inputs.{inputs_once}

pub have_one_graph : HaveOneGraph
have_one_graph left right places others g h x y z w l r =
    let variables : l.variables ≡ r.variables =
    ordered_one ShiftBefore shift_asym l.variables r.variables l.are_variables.in_order r.are_variables.in_order (λ v m. (r.are_variables.exactly v).1 ((l.are_variables.exactly v).0 m))
    (λ v m. (l.are_variables.exactly v).1 ((r.are_variables.exactly v).0 m)) in
    let tables : places ≡ others = l.places_are ∙ ap (map entry_of) variables ∙ sym r.places_are in
    let distinct : AreDistinct places = subst AreDistinct (sym l.places_are) (entries_once l.variables l.are_variables.in_order) in
    let other_left : Makes places (with_inputs (length l.variables)) left r.between z =
    subst (λ (vs : List (Variable ℕ)). Makes places (with_inputs (length vs)) left r.between z) (sym variables) (subst (λ (ps : List (ℕ × ℕ)). Makes ps (with_inputs (length r.variables)) left r.between z) (sym tables) r.left_made) in
    let one = tree_one places distinct (with_inputs (length l.variables)) l.between r.between left x z (inputs_once (length l.variables)) l.left_made other_left in
    let other_right : Makes places l.between right h w = subst (λ (k : List Node). Makes places k right h w) (sym one.graphs) (subst (λ (ps : List (ℕ × ℕ)). Makes ps r.between right h w) (sym tables) r.right_made) in
    let two = tree_one places distinct l.between g h right y w one.once l.right_made other_right in
    (tables, two.graphs, one.lits, two.lits)

-- both trees stand in their graph
module _ (left right : Tree ℕ) (places : List (ℕ × ℕ)) (g : List Node) (x y : ℕ) (is : IsGraphOf left right places g x y) where
  pub left_built : Builds g places left x
  left_built = stays places is.between g (tree_grown places is.between g right y is.right_made) left x (tree_built places (with_inputs (length is.variables)) is.between left x is.left_made)

  pub right_built : Builds g places right y
  right_built = tree_built places is.between g right y is.right_made

  pub places_once : AreDistinct places
  places_once = subst AreDistinct (sym is.places_are) (entries_once is.variables is.are_variables.in_order)
