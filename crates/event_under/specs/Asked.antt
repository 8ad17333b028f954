-- What is asked of pairs in the event form under an assumption, over a graph whose variables stand for inputs at event nodes.
use Rattle.std.specs.Prelude.{◌≡◌, ◌↔◌, ℕ, ◌<◌, Bool, true, List, [], ◌∷◌, map, length, slice_get, slice_index_or, Some, None}
use Rattle.std.specs.List.{All}
use Rattle.circuit_theory.specs.Joined.{Either, Left, Right}
use Rattle.circuit_theory.specs.Query.{Variable}
use Rattle.circuit_theory.specs.Run.{IsEnabled}
use Rattle.circuit_theory.specs.Tree.{Tree, tree_value}
use Rattle.circuit_theory.specs.EventFrames.{AreNodeVariables}
use Rattle.circuit_theory.specs.Frame.{EventSide, EventUnfolds}
use Rattle.aig.specs.declared.node.Node.{Node}
use Rattle.aig.specs.Builds.{TakesBits}
use Rattle.aig.specs.Values.{value}
use Rattle.obligations.specs.outcome.pair_decide.Query.{Query}
use Rattle.obligations.specs.outcome.pair_decide.Queries.{IsQuery}
use Rattle.event_nodes.specs.Nodes.{EventGraphView}
use Rattle.event_nodes.specs.event_variables.Variables.{variables_of}
use Rattle.sec_setup.specs.declared.ports.pairs.SignalPair.{SignalPair}
use Rattle.obligations.specs.declared.obligation.Obligation.{Obligation}
use Rattle.event_form.specs.Asked.{IsAskedOf}
use Rattle.assume_laws.specs.Assume.{Assumption, HasCareUnder}
use Rattle.assume_laws.specs.Sequences.{IsPairTreeUnder, IsSideTree}

-- the variable with this number: an input at an event node
abbrev pub variable_in : List (ℕ × List ℕ) → ℕ → Variable (List ℕ)
variable_in places v = let p = slice_index_or places v (0, []) in record { input = p.0; at = p.1 }

abbrev pub variables_in : List (ℕ × List ℕ) → List ℕ → List (Variable (List ℕ))
variables_in places vars = map (variable_in places) vars

-- The query asks whether the event functions of both places agree in each frame that has care for both and meets the assumption at each node
-- that has a variable of the two or of their cares. Its variables are those of the two, of their cares, and of the assumption at these nodes;
-- `sides` are those of the two alone.
pub record AsksUnder (c : Assumption) (s : EventSide (Either ℕ ℕ)) (g : List Node) (places : List (ℕ × List ℕ)) (p q : Either ℕ ℕ) (sides : List (Variable (List ℕ))) (query : Query) : Type 0 where
  pub asked : IsQuery g query
  pub within : All (λ v. v < length places) query.vars
  pub left_tree : Tree (List ℕ)
  pub right_tree : Tree (List ℕ)
  pub left_unfolds : EventUnfolds s (IsEnabled s.circuit) None p [] left_tree
  pub right_unfolds : EventUnfolds s (IsEnabled s.circuit) None q [] right_tree
  pub left_value : (bits : ℕ → List ℕ → Bool) (a : ℕ → Bool) → TakesBits places bits a → value g a query.left.0 ≡ tree_value bits left_tree
  pub right_value : (bits : ℕ → List ℕ → Bool) (a : ℕ → Bool) → TakesBits places bits a → value g a query.right.0 ≡ tree_value bits right_tree
  pub one_literal : left_tree ≡ right_tree → query.left.0 ≡ query.right.0
  pub care_value : (bits : ℕ → List ℕ → Bool) (a : ℕ → Bool) → TakesBits places bits a → (value g a query.care.0 ≡ true) ↔ HasCareUnder c s p q bits
  pub are_sides : AreNodeVariables (IsSideTree s p q) sides
  pub are_variables : AreNodeVariables (IsPairTreeUnder c s p q) (variables_in places query.vars)

-- What is asked of a pair under the assumption, where `o` is asked of it without one: the same name, size and weight of a difference, and one query.
pub record IsAskedUnder (c : Assumption) (s : EventSide (Either ℕ ℕ)) (w : EventGraphView) (g : List Node) (places : List (ℕ × List ℕ)) (cut : Bool) (p : SignalPair) (o u : Obligation) : Type 0 where
  pub plain : IsAskedOf s w cut p o
  pub name_is : u.name ≡ o.name
  pub size_is : u.size ≡ o.size
  pub decisive_is : u.decisive ≡ o.decisive
  pub query : Query
  pub only : u.queries ≡ query ∷ []
  pub asks : AsksUnder c s g places (Left p.left.0) (Right p.right.0) (variables_of w plain.query.vars) query

-- the same of several, in order
pub record AreAskedUnder (c : Assumption) (s : EventSide (Either ℕ ℕ)) (w : EventGraphView) (g : List Node) (places : List (ℕ × List ℕ)) (cut : Bool) (pairs : List SignalPair) (asked under : List Obligation) : Type 0 where
  pub each_asked : length asked ≡ length pairs
  pub each_under : length under ≡ length pairs
  pub are : (i : ℕ) (p : SignalPair) (o u : Obligation) → slice_get pairs i ≡ Some p → slice_get asked i ≡ Some o → slice_get under i ≡ Some u → IsAskedUnder c s w g places cut p o u
