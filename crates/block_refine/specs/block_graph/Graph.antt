-- Two nets on one graph, in which all latches of a block are one variable.
use Rattle.std.specs.Prelude.{◌≡◌, ℕ, ◌+◌, ◌^◌, ◌<◌, ◌≤◌, List, length}
use Rattle.std.specs.List.{All}
use Rattle.circuit_theory.specs.Joined.{Either, Left, Right}
use Rattle.sec_base.specs.declared.limits.TheConstants.{MAX_WEIGHT}
use Rattle.flat_net.specs.View.{NetView}
use Rattle.aig.specs.declared.node.Node.{Node}
use Rattle.aig.specs.Graph.{IsGraph}
use Rattle.block_refine.specs.declared.latch_blocks.variables.Variables.{Variables}
use Rattle.block_refine.specs.latch_blocks.Blocks.{AreInOrder}
use Rattle.block_refine.specs.latch_blocks.Signals.{AreVariables, AreSignalLits, net_weight}
use Rattle.block_refine.specs.latch_blocks.Readings.{AreBlockVariables}
use Rattle.block_refine.specs.declared.block_graph.nets.BlockNets.{BlockNets}
use Rattle.block_refine.specs.declared.block_graph.nets.NetSignal.{NetSignal}
use Rattle.block_refine.specs.declared.block_graph.nets.NetSignal.TheVariants as signal
use Rattle.block_refine.specs.declared.block_graph.graph.NetLits.{NetLits}
use Rattle.block_refine.specs.declared.block_graph.graph.BlockGraph.{BlockGraph}

-- Both nets are light, each input has a small number, and each latch is in a block.
pub record AreReady (n : BlockNets) : Type 0 where
  pub left_light : net_weight n.left.now ≤ MAX_WEIGHT
  pub right_light : net_weight n.right.now ≤ MAX_WEIGHT
  pub left_long : length n.orders.now.left ≡ length n.left.now.inputs
  pub right_long : length n.orders.now.right ≡ length n.right.now.inputs
  pub left_small : All (λ i. i < 2 ^ 31) n.orders.now.left
  pub right_small : All (λ i. i < 2 ^ 31) n.orders.now.right
  pub each : length n.blocks.now ≡ length n.left.now.latches + length n.right.now.latches
  pub in_order : AreInOrder n.blocks.now

-- each signal of the net has its literal on the graph
pub record AreOn (n : NetView) (g : List Node) (on : NetLits) : Type 0 where
  pub variables : AreVariables n on.variables
  pub each : length on.lits.items ≡ length n.drivers
  pub lits : AreSignalLits n on.variables g on.lits.items

-- all variables are below the limit
pub record AreBelow (limit : ℕ) (w : Variables) : Type 0 where
  pub inputs : All (λ k. k < limit) w.inputs
  pub latches : All (λ k. k < limit) w.latches

-- Both nets are on the graph, where each input is its number and all latches of a block are one variable.
pub record IsBlockGraph (n : BlockNets) (g : BlockGraph) : Type 0 where
  pub first : ℕ
  pub first_small : first ≤ 2 ^ 31
  pub limit_is : g.limit ≡ first + length n.blocks.now
  pub is_graph : IsGraph g.aig
  pub variables : AreBlockVariables n.left.now n.right.now n.orders.now first n.blocks.now g.left.variables g.right.variables
  pub left_on : AreOn n.left.now g.aig g.left
  pub right_on : AreOn n.right.now g.aig g.right
  pub left_below : AreBelow g.limit g.left.variables
  pub right_below : AreBelow g.limit g.right.variables
  pub left_long : length n.orders.now.left ≡ length n.left.now.inputs
  pub right_long : length n.orders.now.right ≡ length n.right.now.inputs

-- the signal's number
abbrev pub number_of : NetSignal → Either ℕ ℕ
number_of (signal.Left s) = Left s.0
number_of (signal.Right s) = Right s.0

-- the signal is one of its net
abbrev pub IsSignalOf : BlockNets → NetSignal → Type 0
IsSignalOf n (signal.Left s) = s.0 < length n.left.now.drivers
IsSignalOf n (signal.Right s) = s.0 < length n.right.now.drivers
