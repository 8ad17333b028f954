-- What tells the class of the two latches that load under an enable from `always`, by itself.
use Rattle.std.specs.Prelude.{true, false, [], ◌∷◌, None}
use Rattle.circuit_theory.specs.declared.Side.TheVariants.{A}
use Rattle.circuit_theory.specs.Classes.{HasClasses}
use Rattle.circuit_theory.specs.Joined.{Left, Right}
use Rattle.event_nodes.specs.Nodes.{EventGraphView, IsEventGraph, GrowsEvents}
use Rattle.class_search.specs.class_separations.Apart.{IsApart}
use Rattle.class_search.specs.declared.class_separations.apart.Apart.{Apart}
use Rattle.class_search.specs.event_order.Order.{place_of}
use Rattle.premise_rows.specs.event_pair_premises.Differing.{at_root}
use Rattle.premise_rows.specs.event_pair_premises.Held.{loads_a, loads_not_a, both_held, at_load}

-- A's latch founds class 1: its enable is 0 where e and a are
abbrev pub q_apart : Apart
q_apart = record { low = None; high = record { side = A; latch = 0 }; left = true; right = false; vars = 0 ∷ 1 ∷ []; bits = false ∷ false ∷ [] }

-- it tells class 1 from class 0, where the latches join in this order
abbrev pub TellsFromAlways : EventGraphView → Type 0
TellsFromAlways w = IsApart both_held w (place_of loads_a.net loads_not_a.net) (Left 2 ∷ Right 2 ∷ []) 0 1 q_apart

-- It does so over the variables at the root, and so in the graph that has those at the child too.
pub record OneClassMeetsPremises : Type 0 where
  pub classes : HasClasses both_held
  pub is_graph : IsEventGraph at_root
  pub grows : GrowsEvents at_root at_load
  pub apart : TellsFromAlways at_root
  pub apart_later : TellsFromAlways at_load
