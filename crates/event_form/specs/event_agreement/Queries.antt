-- The query of a pair in the event form.
use Rattle.std.specs.Prelude.{◌≡◌, ◌*◌, ◌<◌, length}
use Rattle.circuit_theory.specs.Frame.{EventSide}
use Rattle.class_search.specs.aig.Rules.{IsAndOf}
use Rattle.event_nodes.specs.Nodes.{EventGraphView}
use Rattle.class_search.specs.event_variables.Variables.{IsMergeOf}
use Rattle.event_classes.specs.declared.event_functions.signals.SignalFunction.{SignalFunction}
use Rattle.event_form.specs.event_agreement.event_pairs.Functions.{IsEventFunction}
use Rattle.class_search.specs.pair_decide.Query.{Query}

-- do the event functions of both places agree wherever both have care? Over the variables of either.
pub record AsksEventPair {P : Type 0} (s : EventSide P) (w : EventGraphView) (p q : P) (query : Query) : Type 0 where
  pub left_function : SignalFunction
  pub right_function : SignalFunction
  pub left_is : IsEventFunction s w p left_function
  pub right_is : IsEventFunction s w q right_function
  pub left : query.left ≡ left_function.value
  pub right : query.right ≡ right_function.value
  pub care : IsAndOf w.graph left_function.care.0 right_function.care.0 query.care.0
  pub care_within : query.care.0 < 2 * length w.graph
  pub vars : IsMergeOf w left_function.vars right_function.vars query.vars
