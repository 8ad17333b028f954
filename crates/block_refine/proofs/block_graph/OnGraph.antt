-- What a graph of both nets is to values that are constant on the blocks.
use Rattle.std.proofs.Common.{◌≡◌, ℕ, Bool}
use Rattle.circuit_theory.specs.Joined.{Either}
use Rattle.flat_net.specs.Sound.{IsSound}
use Rattle.aig.specs.declared.node.Lit.{Lit}
use Rattle.aig.specs.Values.{value}
use Rattle.block_refine.specs.latch_blocks.QueryLaws.{AreOnGraph}
use Rattle.block_refine.proofs.latch_blocks.OnGraph.{same_literals_agree, assignments_are_block_values}
use Rattle.block_refine.specs.declared.block_graph.nets.BlockNets.{BlockNets}
use Rattle.block_refine.specs.declared.block_graph.graph.BlockGraph.{BlockGraph}
use Rattle.block_refine.specs.block_graph.Graph.{IsBlockGraph}
use Rattle.block_refine.specs.block_graph.Comparing.{IsLitIn, AgreeOver, AreReadBy}

module _ (n : BlockNets) (g : BlockGraph) (is : IsBlockGraph n g) where
  -- both nets are on it
  pub on_graph : AreOnGraph n.left.now n.right.now n.orders.now n.blocks.now g.aig g.left.lits.items g.right.lits.items
  on_graph = record {
    first = is.first;
    left = g.left.variables;
    right = g.right.variables;
    variables = is.variables;
    left_long = is.left_long;
    right_long = is.right_long;
    left_lits_are = is.left_on.lits;
    right_lits_are = is.right_on.lits;
  }

  module _ (sound_a : IsSound n.left.now) (sound_b : IsSound n.right.now) where
    -- signals whose literals have one value under each assignment agree
    pub same_agree : (p q : Either ℕ ℕ) (l r : Lit) → IsLitIn g p l → IsLitIn g q r → ((v : ℕ → Bool) → value g.aig v l.0 ≡ value g.aig v r.0) → AgreeOver n p q
    same_agree p q l r at_p at_q same = same_literals_agree n.left.now n.right.now sound_a sound_b n.orders.now n.blocks.now g.aig g.left.lits.items g.right.lits.items on_graph p q l r at_p at_q same

    -- each assignment is that of such values
    pub read_by : (v : ℕ → Bool) → (x : Either ℕ ℕ → Bool) × AreReadBy n g v x
    read_by v =
        let found = assignments_are_block_values n.left.now n.right.now sound_a sound_b n.orders.now n.blocks.now g.aig g.left.lits.items g.right.lits.items on_graph v in
        (found.0, record { constant = found.1; lits = found.2 })
