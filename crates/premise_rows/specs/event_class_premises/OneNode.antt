-- A latch that loads under what another latch has taken over: its enable reaches one event node besides the root.
use Rattle.std.specs.Prelude.{◌≡◌, ◌<◌, ℕ, true, false, List, [], ◌∷◌, length, Some, None, slice_get, codes}
use Rattle.circuit_theory.specs.Joined.{Left}
use Rattle.sec_base.specs.declared.basics.Init.TheVariants as init
use Rattle.base_tables.specs.Table.{AreDistinct}
use Rattle.flat_net.specs.declared.parts.Driver.TheVariants as driver
use Rattle.flat_net.specs.declared.parts.LatchAt.{LatchAt}
use Rattle.flat_net.specs.Sound.{IsSound}
use Rattle.event_nodes.specs.Adds.{Adds}
use Rattle.event_nodes.specs.aig.Node.TheVariants.{Constant}
use Rattle.event_nodes.specs.Nodes.{EventGraphView, IsEventGraph}
use Rattle.event_nodes.specs.View.{EventCircuitView}
use Rattle.event_nodes.specs.Visited.{CounterView, AreNodesFrom, HoldsNodes}
use Rattle.edbf_unfold.specs.event_literals.event_walk.Walk.{IsCounting, HasCountedStart, enable_start}
use Rattle.event_classes.specs.event_functions.class_totals.Laws.{nothing}
use Rattle.event_classes.specs.event_functions.class_totals.Totals.{HaveCounted, AreWithin, ReachFew}
use Rattle.call_rows.specs.circuit_samples.event_samples.Samples.{load_cover}
use Rattle.premise_rows.specs.event_pair_premises.Held.{loads_a}

-- 0 e; 1 a; 2 r, which takes over e; 3 q, which loads a under r; 4 what q takes over, made of r, a and q
abbrev pub under_r : EventCircuitView
under_r = record {
  net = record {
    inputs = record { name = codes "e"; signal = record { 0 = 0 } } ∷ record { name = codes "a"; signal = record { 0 = 1 } } ∷ [];
    outputs = record { name = codes "y"; signal = record { 0 = 3 } } ∷ [];
    gates = record { fanins = record { 0 = 2 } ∷ record { 0 = 1 } ∷ record { 0 = 3 } ∷ []; cover = 0; out = record { 0 = 4 } } ∷ [];
    latches = record { name = codes "r"; next = record { 0 = 0 }; out = record { 0 = 2 }; init = init.Unknown } ∷ record { name = codes "q"; next = record { 0 = 4 }; out = record { 0 = 3 }; init = init.Unknown } ∷ [];
    covers = load_cover ∷ [];
    drivers = driver.Input 0 ∷ driver.Input 1 ∷ driver.Latch 0 ∷ driver.Latch 1 ∷ driver.Gate 0 ∷ [];
    names = codes "e" ∷ codes "a" ∷ codes "r" ∷ codes "q" ∷ codes "n" ∷ [];
    clock = None;
  };
  enabled = false ∷ true ∷ [];
  order = 0 ∷ 1 ∷ [];
  classes = 0 ∷ 0 ∷ [];
}

abbrev pub late_latch : LatchAt
late_latch = record { name = codes "q"; next = record { 0 = 4 }; out = record { 0 = 3 }; init = init.Unknown }

-- the root has one child, by class 0
abbrev pub one_child : List (ℕ × ℕ)
one_child = (0, 0) ∷ []

abbrev pub one_node : EventGraphView
one_node = record { graph = Constant ∷ []; children = one_child; places = [] }

-- at the root what q takes over, of weight 9, a, r and q itself; and e at the child
abbrev pub of_late : CounterView
of_late = record { places = (0, 4) ∷ (0, 1) ∷ (0, 2) ∷ (0, 3) ∷ (1, 0) ∷ []; weight = 13 }

-- The child is made and all that is visited is counted. So this is within the numbers of the definition, and few event nodes are reached.
pub record NodesMeetPremises : Type 0 where
  pub sound : IsSound under_r.net
  pub other_sound : IsSound loads_a.net
  pub at : slice_get under_r.net.latches 1 ≡ Some late_latch
  pub begins : HaveCounted under_r loads_a [] [] nothing nothing
  pub counting : IsCounting under_r (enable_start late_latch) [] one_child nothing of_late
  pub counted : HasCountedStart under_r (enable_start late_latch) one_child nothing of_late
  pub with_it : HaveCounted under_r loads_a one_child (Left 3 ∷ []) of_late nothing
  pub events : IsEventGraph one_node
  pub distinct : AreDistinct of_late.places
  pub within : AreWithin under_r loads_a (Left 3 ∷ [])
  pub made : Adds (λ (q : ℕ × ℕ). Unit {0}) [] one_child
  pub few_made : length one_child < 10000
  pub reached : AreNodesFrom under_r one_child (enable_start late_latch) 0
  pub all_made : HoldsNodes under_r one_child (enable_start late_latch)
  pub few : ReachFew under_r loads_a (Left 3 ∷ [])
