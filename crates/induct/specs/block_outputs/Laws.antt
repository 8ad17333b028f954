-- What equal outputs over the coarsest inductive partition mean.
use Rattle.std.specs.Prelude.{◌≡◌, ℕ, List, All}
use Rattle.std.specs.List.{AllZip}
use Rattle.circuit_theory.specs.Interface.{AreNumbersOf}
use Rattle.circuit_laws.specs.reset_laws.Reset.{AgreeFromReset}
use Rattle.flat_net.specs.Comparable.{IsComparable}
use Rattle.flat_net.specs.View.{circuit_of, ports_of}
use Rattle.block_refine.specs.declared.block_graph.nets.BlockNets.{BlockNets}
use Rattle.block_refine.specs.declared.block_graph.graph.BlockGraph.{BlockGraph}
use Rattle.block_refine.specs.Refining.{AreCoarsest}
use Rattle.induct.specs.declared.block_outputs.answer.OutputAnswer.TheVariants as answer
use Rattle.induct.specs.declared.block_outputs.outputs.OutputPair.{OutputPair}
use Rattle.induct.specs.block_outputs.Answers.{IsOutputAnswer}

-- Outputs that are all equal over the coarsest inductive partition agree in every cycle of runs from the initial values with equal inputs.
-- Shared inputs have their places as numbers.
abbrev pub EqualOutputsAgree : Type 0
EqualOutputsAgree = (n : BlockNets) (g : BlockGraph) (shared : List (List ℕ)) (conflicts : ℕ) (pairs : List OutputPair) → IsComparable n.right.now →
    AreNumbersOf (ports_of n.left.now).inputs shared n.orders.now.left n.orders.now.right → AreNumbersOf (ports_of n.right.now).inputs shared n.orders.now.right n.orders.now.left →
    AreCoarsest n.left.now n.right.now n.orders.now n.blocks.now → AllZip (IsOutputAnswer n g conflicts) n.left.now.outputs pairs → All (λ pair. pair.answer ≡ answer.Equal) pairs →
    AgreeFromReset (circuit_of n.left.now) (circuit_of n.right.now)
