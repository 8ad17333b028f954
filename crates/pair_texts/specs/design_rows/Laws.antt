-- What the computed tests of a design say. Each law is the contract of a function of this crate.
use Rattle.std.specs.Prelude.{◌≡◌, ℕ, true, List}
use Rattle.circuit_theory.specs.Depth.{HasCycle}
use Rattle.circuit_theory.specs.Run.{NoneEnabled}
use Rattle.blif_read.specs.declared.design.BlifModel.{BlifModel}
use Rattle.blif_read.specs.Design.{Place, circuit_of_design}
use Rattle.flat_net.specs.View.{NetView, circuit_of}
use Rattle.flatten.specs.DesignFaults.{IsSoundDesign, IsFlatOf}
use Rattle.pair_texts.specs.design_rows.NoFault.{has_no_fault}
use Rattle.pair_texts.specs.design_rows.Ranked.{IsRanked}

-- A design that passes the test has no fault.
abbrev pub TestedIsSound : Type 0
TestedIsSound = (order : List (List ℕ)) (models : List BlifModel) → has_no_fault order models ≡ true → IsSoundDesign models

-- Ranks over a design's places rule out cycles of latches in its nets.
abbrev pub RankedIsAcyclic : Type 0
RankedIsAcyclic = (models : List BlifModel) (net : NetView) (removed : List (List ℕ)) (rank : Place → ℕ) → IsFlatOf models net → IsRanked (circuit_of_design models net.clock) removed rank →
    HasCycle (circuit_of net) NoneEnabled removed → ⊥
