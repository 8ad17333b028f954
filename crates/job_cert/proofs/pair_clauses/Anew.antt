-- The functions of a pair, made anew on the graph of their trees.
use Rattle.std.proofs.Common.{◌≡◌, ◌≢◌, ℕ, ◌*◌, ◌<◌, List, [], ◌∷◌, map, length, refl, sym}
use Rattle.std.specs.List.{All, AllPairs}
use Rattle.circuit_theory.specs.Query.{AreVariables, ShiftBefore}
use Rattle.circuit_theory.proofs.Lists.{map-map}
use Rattle.base_tables.specs.Table.{AreDistinct}
use Rattle.flat_net.specs.View.{NetView}
use Rattle.aig.specs.declared.node.Node.{Node}
use Rattle.aig.specs.Graph.{IsGraph}
use Rattle.aig.specs.Builds.{HasTreeValues}
use Rattle.cbf_unfold.specs.declared.unfold_places.signal_function.Unfolded.{Unfolded}
use Rattle.cbf_unfold.specs.Unfolded.{IsLiteralOf}
use Rattle.pair_decide.specs.declared.query.Query.{Query}
use Rattle.plain_asked.specs.Pairs.{IsFunctionOf}
use Rattle.plain_asked.specs.Variables.{variable_of, variables_of, AreInOrder, IsMergeOf}
use Rattle.plain_asked.proofs.PairQueries.{AsksPair, are_variables, in_order, merge_in_order, numbers_apart}
use Rattle.tree_graph.specs.Rooted.{entries}
use Rattle.tree_graph.specs.Numbering.{IsGraphOf, IsOfTrees, entry_of}
use Rattle.tree_graph.proofs.OneGraph.{left_built, right_built, places_once}

module _ (a b : NetView) (left right : List ℕ) (g : List Node) (places : List (ℕ × ℕ)) (s t : ℕ) (l r : Unfolded) (vars : List ℕ) (graph : IsGraph g) (distinct : AreDistinct places) (values : HasTreeValues g)
    (left_is : IsFunctionOf a left g places s l) (right_is : IsFunctionOf b right g places t r) (merged : IsMergeOf places l.vars r.vars vars) where
  ordered : AreInOrder places vars
  ordered = merge_in_order places l.vars r.vars vars (in_order a left g places s l left_is) (in_order b right g places t r right_is) merged

  pub vars_within : All (λ v. v < length places) vars
  vars_within = ordered.within

  pub vars_differ : AllPairs (λ u v. u ≢ v) vars
  vars_differ = numbers_apart places vars ordered.ordered

  abbrev asked : Query
  asked = record { left = l.lit; right = r.lit; care = record { 0 = 1 }; vars = vars }

  abbrev asks : AsksPair a b left right g places s t l r asked
  asks = record { graph = graph; distinct = distinct; values = values; left_is = left_is; right_is = right_is; asks = record { left_is = refl; right_is = refl; care_is = refl; variables_are = merged } }

  both : AreVariables ShiftBefore (left_is.tree ∷ right_is.tree ∷ []) (variables_of places vars)
  both = are_variables asks

  entries_are : entries places vars ≡ map entry_of (variables_of places vars)
  entries_are = sym (map-map entry_of (variable_of places) vars)

  module _ (h : List Node) (x y : ℕ) (made : IsOfTrees left_is.tree right_is.tree (entries places vars) h x y) where
    pub numbered : IsGraphOf left_is.tree right_is.tree (entries places vars) h x y
    numbered = made (variables_of places vars) both entries_are

    abbrev pub left_anew : x < 2 * length h → IsLiteralOf a left h (entries places vars) s x
    left_anew within = record { depth = left_is.depth; tree = left_is.tree; unfolds = left_is.unfolds; builds = left_built left_is.tree right_is.tree (entries places vars) h x y numbered; within = within }

    abbrev pub right_anew : y < 2 * length h → IsLiteralOf b right h (entries places vars) t y
    right_anew within = record { depth = right_is.depth; tree = right_is.tree; unfolds = right_is.unfolds; builds = right_built left_is.tree right_is.tree (entries places vars) h x y numbered; within = within }

    pub entries_once : AreDistinct (entries places vars)
    entries_once = places_once left_is.tree right_is.tree (entries places vars) h x y numbered
