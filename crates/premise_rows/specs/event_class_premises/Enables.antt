-- The enable of the latch that loads a under e, as it is unfolded at the root.
use Rattle.std.specs.Prelude.{[], ◌∷◌}
use Rattle.flat_net.specs.Sound.{IsSound}
use Rattle.event_nodes.specs.Nodes.{IsEventGraph}
use Rattle.event_nodes.specs.View.{IsEventCircuit}
use Rattle.event_classes.specs.declared.event_functions.class_totals.enables.EnableFunction.{EnableFunction}
use Rattle.event_classes.specs.event_functions.Laws.{AreCovered}
use Rattle.event_classes.specs.event_functions.class_totals.EnableFunctions.{IsEnableFunctionOf}
use Rattle.premise_rows.specs.event_pair_premises.Held.{loads_a}
use Rattle.premise_rows.specs.event_class_premises.Tables.{at_enables}
use Rattle.premise_rows.specs.event_class_premises.Totals.{q_latch}

-- e with the care 1; its trees read a too
abbrev pub as_e : EnableFunction
as_e = record { value = record { 0 = 2 }; care = record { 0 = 1 }; vars = 0 ∷ 1 ∷ [] }

-- It is e, by the literals of what the latch takes over with itself as 0 and as 1: e with a, and the complement of e without a.
pub record EnableMeetsPremises : Type 0 where
  pub sound : IsSound loads_a.net
  pub circuit : IsEventCircuit loads_a
  pub events : IsEventGraph at_enables
  pub function : IsEnableFunctionOf loads_a at_enables q_latch as_e
  pub covered : AreCovered at_enables as_e.vars as_e.value.0 as_e.care.0
