-- Two circuits as they are compared in the event form: their pairs, and the names of their inputs.
use Rattle.std.specs.Prelude.{◌≡◌, ℕ, max, length}
use Rattle.std.specs.List.{All, AllZip}
use Rattle.circuit_theory.specs.Depth.{IsDepth}
use Rattle.circuit_theory.specs.Tree.{AreNumbered}
use Rattle.flat_net.specs.View.{circuit_of}
use Rattle.base_tables.specs.Table.{AreDistinct}
use Rattle.event_nodes.specs.View.{EventCircuitView, Enabled}
use Rattle.sec_setup.specs.declared.ports.pairs.SignalPair.{SignalPair}
use Rattle.event_form.specs.event_findings.event_witness.Sequences.{HasInputsBelow}
use Rattle.event_form.specs.declared.event_findings.pairs.EventPairs.{EventPairs}

-- the depth of a pair is the greater of both depths, where the self-edges of enabled latches aren't counted
pub record IsEventDepth (a b : EventCircuitView) (p : SignalPair) (depth : ℕ) : Type 0 where
  pub left : ℕ
  pub right : ℕ
  pub left_is : IsDepth (circuit_of a.net) (Enabled a) p.left.0 left
  pub right_is : IsDepth (circuit_of b.net) (Enabled b) p.right.0 right
  pub greater : depth ≡ max left right

-- These are the depths of the pairs, in order. Inputs of one name have one number in both circuits; each input that the unfoldings of the pairs visit
-- has a name by its number, and each name is one number's.
pub record AreCompared (a b : EventCircuitView) (c : EventPairs) : Type 0 where
  pub depths_are : AllZip (IsEventDepth a b) c.pairs.now c.depths.now
  pub numbers : AreNumbered (circuit_of a.net) (circuit_of b.net) a.order b.order
  pub left_named : All (λ (p : SignalPair). HasInputsBelow (circuit_of a.net) a.order (length c.names.now) p.left.0) c.pairs.now
  pub right_named : All (λ (p : SignalPair). HasInputsBelow (circuit_of b.net) b.order (length c.names.now) p.right.0) c.pairs.now
  pub distinct : AreDistinct c.names.now
