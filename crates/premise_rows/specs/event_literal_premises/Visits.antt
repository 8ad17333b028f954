-- What the enable of p visits, where q loads a and p loads where q is 1.
use Rattle.std.specs.Prelude.{◌≡◌, ◌<◌, ℕ, false, List, [], ◌∷◌, Some, slice_get, All}
use Rattle.circuit_theory.specs.EventFrames.{AreNodeVariables}
use Rattle.circuit_theory.specs.EventSizes.{IsEventWeight, IsEventOver}
use Rattle.circuit_theory.specs.Frame.{EventUnfolds}
use Rattle.circuit_theory.specs.Tree.{Tree}
use Rattle.base_tables.specs.Table.{AreDistinct}
use Rattle.flat_net.specs.Sound.{IsSound}
use Rattle.event_nodes.specs.Nodes.{IsEventGraph}
use Rattle.event_nodes.specs.View.{IsEventCircuit, Enabled, side_of}
use Rattle.event_nodes.specs.Visited.{HasCounted, HoldsVisits, IsVisitedPair, places_weight}
use Rattle.event_nodes.specs.event_variables.Inputs.{AreInputsOf, AreVisitedInputs}
use Rattle.event_nodes.specs.event_variables.Laws.{IsEnableCareTree}
use Rattle.event_nodes.specs.event_variables.Variables.{variables_of}
use Rattle.premise_rows.specs.event_literal_premises.Chained.{where_a, at_chain, p_enable, latch_p}

-- at the root what p takes over, g, q, a and p itself; at the child by class 1 what q takes over, e, a and q itself
abbrev pub visited : List (ℕ × ℕ)
visited = (0, 1) ∷ (0, 2) ∷ (0, 3) ∷ (0, 5) ∷ (0, 6) ∷ (1, 0) ∷ (1, 1) ∷ (1, 2) ∷ (1, 4) ∷ []

-- e and a at the child, and a at the root
abbrev pub p_vars : List ℕ
p_vars = 2 ∷ 3 ∷ 1 ∷ []

-- These are exactly the places that the enable visits. They weigh 27 together, which is its event weight and passes 26. The inputs among them are
-- those that it visits, and the variables of the enable and of its care.
pub record VisitsMeetPremises : Type 0 where
  pub sound : IsSound where_a.net
  pub circuit : IsEventCircuit where_a
  pub graph : IsEventGraph at_chain
  pub distinct : AreDistinct visited
  pub each : All (IsVisitedPair where_a at_chain.children (p_enable ∷ [])) visited
  pub holds : HoldsVisits where_a at_chain.children p_enable visited
  pub counted : HasCounted where_a at_chain.children (p_enable ∷ []) (record { places = visited; weight = 27 })
  pub weighs : IsEventWeight (side_of where_a) (Enabled where_a) (p_enable ∷ []) 27
  pub passed : 26 < places_weight where_a.net visited
  pub over : IsEventOver (side_of where_a) (Enabled where_a) (p_enable ∷ []) 26
  pub inputs : AreInputsOf where_a at_chain visited p_vars
  pub visited_inputs : AreVisitedInputs where_a at_chain p_enable p_vars
  pub at : slice_get where_a.net.latches 1 ≡ Some latch_p
  pub enabled : Enabled where_a 3
  pub unfolds : (tree : Tree (List ℕ)) × EventUnfolds (side_of where_a) (Enabled where_a) (Some (3, false)) 6 [] tree
  pub variables : AreNodeVariables (IsEnableCareTree (side_of where_a) 3) (variables_of at_chain p_vars)
