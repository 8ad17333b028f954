-- The event nodes of the variables of a pair's query.
use Rattle.std.proofs.Common.{◌≡◌, ◌∙◌, ℕ, ◌<◌, List, length, sym, ap, subst}
use Rattle.std.specs.List.{Contains}
use Rattle.std.proofs.lemmas.List.Elements.{All-contains}
use Rattle.circuit_theory.specs.Joined.{Either}
use Rattle.circuit_theory.specs.Query.{Variable}
use Rattle.circuit_theory.proofs.Lists.{Contains-map, Contains-map_from}
use Rattle.circuit_theory.specs.EventFrames.{AreNodeVariables, IsPairTree}
use Rattle.circuit_theory.specs.Frame.{EventSide}
use Rattle.pair_decide.specs.declared.query.Query.{Query}
use Rattle.cbf_unfold.specs.unfold_places.Reach.{Adds}
use Rattle.cbf_unfold.specs.shift_variables.query_places.Places.{place_of}
use Rattle.assume_laws.specs.Assume.{HasVariableAtNode}
use Rattle.event_nodes.specs.Nodes.{EventGraphView, IsEventGraph}
use Rattle.event_nodes.specs.event_variables.Variables as event_variables
use Rattle.event_form.specs.event_agreement.Queries.{AsksEventPair}
use Rattle.event_form.proofs.event_agreement.PairQueries as pair_query
use Rattle.event_nodes.specs.event_variables.ranked_nodes.Ranks.{AreRanked}
use Rattle.event_nodes.specs.declared.event_variables.ranked_nodes.ranks.RankedNodes.{RankedNodes}
use Rattle.event_nodes.specs.event_variables.ranked_nodes.Named.{ranked_in, path_at}
use Rattle.event_under.proofs.event_asked_under.Variables.{node_there}

module _ (w : EventGraphView) (is : IsEventGraph w) (s : EventSide (Either ℕ ℕ)) (p q : Either ℕ ℕ) (query : Query) (asks : AsksEventPair s w p q query) where
  pub query_within : (v : ℕ) → Contains query.vars v → v < length w.places
  query_within v m = All-contains (λ u. u < length w.places) query.vars v (pair_query.within s w p q query is asks) m

module _ (w : EventGraphView) (is : IsEventGraph w) (r : RankedNodes) (k : AreRanked w.children r) (table : List (ℕ × ℕ)) (adds : Adds (λ p. Unit {0}) (ranked_in r.ranks.items w.places) table) (s : EventSide (Either ℕ ℕ)) (p q : Either ℕ ℕ) (query : Query)
    (asks : AsksEventPair s w p q query) where
  variables : AreNodeVariables (IsPairTree s p q) (event_variables.variables_of w query.vars)
  variables = pair_query.are_variables s w p q query is asks

  -- a variable of the query is one of the pair, at its node
  pub variable_there : (v : ℕ) → Contains query.vars v → HasVariableAtNode s p q (path_at w.children r.nodes (place_of table v))
  variable_there v m =
      let l = (variables.exactly (event_variables.variable_of w v)).0 (Contains-map (event_variables.variable_of w) query.vars v m) in
      let path = node_there w is r k table adds v (query_within w is s p q query asks v m) in
      subst (λ (node : List ℕ). HasVariableAtNode s p q node) (sym path) (l.0, (event_variables.variable_of w v).input, l.1, l.2)

  -- and where the pair has a variable, the query has one
  pub variable_back : (node : List ℕ) → HasVariableAtNode s p q node → (v : ℕ) × Contains query.vars v × (path_at w.children r.nodes (place_of table v) ≡ node)
  variable_back node has =
      let m = Contains-map_from (event_variables.variable_of w) query.vars (record { input = has.1; at = node }) ((variables.exactly (record { input = has.1; at = node })).1 (has.0, has.2, has.3)) in
      (m.0, m.1, node_there w is r k table adds m.0 (query_within w is s p q query asks m.0 m.1) ∙ ap (λ (y : Variable (List ℕ)). y.at) m.2)
