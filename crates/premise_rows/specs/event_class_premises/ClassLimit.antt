-- A circuit whose latch an input clears, in a gate that reads sixteen inputs more, beside a circuit without latches: no conflicts are allowed, and so the
-- class map of both ends at the limit of the latch's query.
use Rattle.std.specs.Prelude.{ℕ, true, List, [], ◌∷◌, ◌++◌, map, None, codes}
use Rattle.circuit_theory.specs.declared.Side.TheVariants.{A}
use Rattle.circuit_theory.specs.Cover.{Cover}
use Rattle.circuit_theory.specs.EventFrames.{AreNodeVariables, IsClassTree}
use Rattle.circuit_theory.specs.Frame.{EventSide}
use Rattle.circuit_theory.specs.Joined.{Either, Left}
use Rattle.sec_base.specs.declared.basics.Init.TheVariants as init
use Rattle.flat_net.specs.declared.parts.Driver.TheVariants as driver
use Rattle.flat_net.specs.declared.parts.LatchAt.{LatchAt}
use Rattle.flat_net.specs.View.{NetView}
use Rattle.event_nodes.specs.View.{EventCircuitView}
use Rattle.event_nodes.specs.Visited.{CounterView}
use Rattle.class_search.specs.event_variables.Variables.{variables_of}
use Rattle.edbf_unfold.specs.class_queries.Enables.{both_of, IsEnableFunction}
use Rattle.event_classes.specs.Refused.{IsLimitOf}
use Rattle.premise_rows.specs.event_class_premises.AtLimit.{many_inputs, all_seventeen, e_is_off}
use Rattle.premise_rows.specs.event_limit_premises.Chosen.{input_port, letter, numbers_from, seventeen, shows}

abbrev pub eighteen : List ℕ
eighteen = numbers_from 0 18

-- the latch where a is 0, whatever the others are
abbrev pub clear_cover : Cover
clear_cover = record { width = 18; rows = codes "0----------------1" ∷ []; on = true }

abbrev pub r_latch : LatchAt
r_latch = record { name = codes "r"; next = record { 0 = 18 }; out = record { 0 = 17 }; init = init.Unknown }

-- 0 to 16 a to q; 17 r, 18 what it takes over, made of all of them
abbrev pub clearing : NetView
clearing = record {
  inputs = map input_port seventeen;
  outputs = [];
  gates = record { fanins = map (λ k. record { 0 = k }) eighteen; cover = 0; out = record { 0 = 18 } } ∷ [];
  latches = r_latch ∷ [];
  covers = clear_cover ∷ [];
  drivers = map driver.Input seventeen ++ driver.Latch 0 ∷ driver.Gate 0 ∷ [];
  names = map letter seventeen ++ codes "r" ∷ codes "s" ∷ [];
  clock = None;
}

-- the latch has no class yet
abbrev pub clears : EventCircuitView
clears = record { net = clearing; enabled = true ∷ []; order = seventeen; classes = 0 ∷ [] }

abbrev pub clears_beside : EventSide (Either ℕ ℕ)
clears_beside = both_of clears shows

-- at the root the gate, of weight 20, and all that it reads, of weight 1 each
abbrev pub of_clearing : CounterView
of_clearing = record { places = (0, 18) ∷ map (λ k. (0, k)) eighteen; weight = 38 }

-- The enable is a, over the variables of all seventeen inputs, and the query of it against 1 is at its limit: so the class map has met it.
pub record ClassLimitIsMet : Type 0 where
  pub enable : IsEnableFunction clears_beside many_inputs (Left 17) 2 1
  pub own : AreNodeVariables (IsClassTree clears_beside (Left 17) (Left 17)) (variables_of many_inputs all_seventeen)
  pub limit : IsLimitOf clears shows (record { side = A; latch = 0 }) None 0 e_is_off
